-- What each step tells its caller.
use Rattle.std.specs.Prelude.{ℕ, ◌≡◌, ◌≢◌, ◌-◌, ◌<◌, ◌≤◌, ◌⊎◌, cond, eqb, List, [], ◌∷◌, length, slice_set}
use Rattle.atomic_table.specs.Table.{Me, Step}
use Rattle.octant_code.specs.Space.{Site}
use Rattle.octant_code.specs.Points.{site_at}
use Rattle.bh_model.specs.Bodies.{IsIn}
use Rattle.tree_rule.specs.declared.words.TheConstants.{MOST_CELLS}
use Rattle.tree_rule.specs.Words.{at_of, body_word, cell_word, child_place, lock_place}
use Rattle.tree_rule.specs.Flat.{StandsFor}
use Rattle.tree_passes.specs.declared.view.TheConstants.{ROW_WORDS}
use Rattle.tree_passes.specs.declared.view.View.{View}
use Rattle.tree_passes.specs.Counting.{times}
use Rattle.tree_passes.specs.Passes.{after_publication, KnowsPlace}
use Rattle.tree_passes.specs.Looks.{Learns, Looked, Sought}

-- what a step sees of a pass: its view, and the slots that it holds, which are none here
abbrev pub Mine : Type 0
Mine = Me (Unit {0}) View

-- a published word is loaded on the way to a body at a point
abbrev pub sought : Site → Step (Unit {0}) → Mine → ℕ → Mine → Type 0
sought point st m found m' = (m'.1 ≡ m.1) × ((key : ℕ) → KnowsPlace m.0 st.word key → Sought m.0 st.word key found point m'.0)

-- a word of a cell that the pass holds is written
abbrev pub wrote : Step (Unit {0}) → Mine → ℕ → Mine → Type 0
wrote st m new m' = (m'.1 ≡ m.1) × (m'.0 ≡ record m.0 { memory = slice_set m.0.memory st.word new })

-- a word of a cell that the pass holds is read
abbrev pub read : Step (Unit {0}) → Mine → ℕ → Mine → Type 0
read st m found m' =
    (m'.1 ≡ m.1) × (m'.0 ≡ m.0) × ((c j : ℕ) → 1 ≤ times c m.0.held → j < ROW_WORDS → st.word ≡ child_place c j → found ≡ at_of m.0.memory st.word)

-- a body is one of the list, or the one that the word names
abbrev pub IsPutOrNamed : List ℕ → ℕ → ℕ → Type 0
IsPutOrNamed bodies old n = IsIn bodies n ⊎ (old ≡ body_word n)

-- The word `new` may take the place of `old` under this key: `old` names no cell, and `new` stands, with cells that the pass holds, for bodies of its
-- todo list and for the one that `old` names.
pub record IsReadyFor (v : View) (key old new : ℕ) (cells bodies : List ℕ) : Type 0 where
  pub held : (c : ℕ) → times c cells ≤ times c v.held
  pub todo : (x : ℕ) → times x bodies ≤ times x v.todo
  pub no_cell : (d : ℕ) → old ≡ cell_word d → ⊥
  pub grows : (x : ℕ) → old ≡ body_word x → (d : ℕ) × (new ≡ cell_word d)
  pub stands : StandsFor (site_at v.points) (at_of v.memory) new key (IsIn cells) (IsPutOrNamed bodies old)

-- a published word is exchanged: the cells and bodies are published, or the pass learns what was there
abbrev pub exchanged : List ℕ → List ℕ → Step (Unit {0}) → Mine → ℕ → Mine → Type 0
exchanged cells bodies st m found m' =
    (m'.1 ≡ m.1)
    × ((key : ℕ) → KnowsPlace m.0 st.word key
    → (found ≡ st.first → m'.0 ≡ after_publication m.0 cells bodies) × (found ≢ st.first → Learns m.0 st.word key found m'.0))

-- a lock is taken where its word was 0
abbrev pub acquired : Step (Unit {0}) → Mine → ℕ → Mine → Type 0
acquired st m found m' = (m'.1 ≡ m.1) × (found ≡ 0 → m'.0 ≡ record m.0 { locks = st.word ∷ [] }) × (found ≢ 0 → m'.0 ≡ m.0)

-- A published word was loaded under its lock.
pub record LookedUnder (v : View) (i key value : ℕ) (w : View) : Type 0 where
  pub plain : View
  pub looked : Looked v i key value plain
  pub view : w ≡ record plain { under = (i, value) ∷ v.under }

-- a published word is loaded under its lock
abbrev pub looked_under : Step (Unit {0}) → Mine → ℕ → Mine → Type 0
looked_under st m found m' = (m'.1 ≡ m.1) × ((key : ℕ) → KnowsPlace m.0 st.word key → LookedUnder m.0 st.word key found m'.0)

-- the word at a place has a new value
abbrev pub changed : List (ℕ × ℕ) → ℕ → ℕ → List (ℕ × ℕ)
changed [] i n = []
changed (h ∷ hs) i n = (h.0, cond (eqb h.0 i) n h.1) ∷ changed hs i n

-- a published word is stored under its lock, and with it these cells and bodies are published
abbrev pub put : List ℕ → List ℕ → Step (Unit {0}) → Mine → ℕ → Mine → Type 0
put cells bodies st m new m' =
    (m'.1 ≡ m.1) × (m'.0 ≡ record (after_publication m.0 cells bodies) { under = changed m.0.under st.word new })

-- the lock is given up, and what was learnt under it
abbrev pub released : Step (Unit {0}) → Mine → ℕ → Mine → Type 0
released st m new m' = (m'.1 ≡ m.1) × (m'.0 ≡ record m.0 { locks = []; under = [] })

-- A cell was drawn from the pool: it is new to the pass, it lies in the table, and its words are as they are.
pub record IsDrawn (v : View) (c : ℕ) (w : View) : Type 0 where
  pub memory : List ℕ
  pub view : w ≡ record v { held = c ∷ v.held; quota = v.quota - 1; memory = memory }
  pub long : length memory ≡ length v.memory
  pub others : (i : ℕ) → ((j : ℕ) → j < ROW_WORDS → i ≢ child_place c j) → at_of memory i ≡ at_of v.memory i
  pub fresh : times c v.held ≡ 0
  pub small : c < MOST_CELLS
  pub inside : lock_place c < length v.memory

-- a cell is drawn from the pool
abbrev pub drawn : Step (Unit {0}) → Mine → ℕ → Mine → Type 0
drawn st m found m' = (m'.1 ≡ m.1) × IsDrawn m.0 found m'.0
