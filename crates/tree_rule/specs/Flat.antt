-- What it is for words to stand for a set of bodies, in flat facts on single words.
use Rattle.std.specs.Prelude.{ℕ, ◌+◌, ◌*◌, ◌<◌, ◌≤◌, ◌≡◌, ◌≢◌, ◌⊎◌, List}
use Rattle.octant_code.specs.declared.limits.TheConstants.{LEVELS}
use Rattle.octant_code.specs.Space.{Site, key_of, IsUnder}
use Rattle.octant_code.specs.Points.{site_at}
use Rattle.bh_model.specs.Bodies.{HasMoreThan, IsIn, leaf_size}
use Rattle.tree_rule.specs.Words.{at_of, child_place, key_place, body_word, cell_word}

-- The word of the cube of a key is `w`: the top word, or a child word of a published cell.
pub data IsWordOf (at : ℕ → ℕ) (top base : ℕ) (IsCell : ℕ → Type 0) (key w : ℕ) : Type 0 where
  Top : key ≡ base → w ≡ top → IsWordOf at top base IsCell key w
  Child : (c k : ℕ) → IsCell c → k < 8 → key ≡ 8 * at (key_place c) + k → w ≡ at (child_place c k) → IsWordOf at top base IsCell key w

-- the word of the cube of a key is the one that names a cell
abbrev pub IsCellAt : (ℕ → ℕ) → ℕ → ℕ → (ℕ → Type 0) → ℕ → ℕ → Type 0
IsCellAt at top base IsCell key c = IsWordOf at top base IsCell key (cell_word c)

-- the word of the cube of a key is the one that names a body
abbrev pub IsBodyAt : (ℕ → ℕ) → ℕ → ℕ → (ℕ → Type 0) → ℕ → ℕ → Type 0
IsBodyAt at top base IsCell key n = IsWordOf at top base IsCell key (body_word n)

-- More bodies of the set lie in the cube of a key than a leaf holds, and the key is of one of the levels that cells have.
pub record IsShared (site : ℕ → Site) (IsBody : ℕ → Type 0) (key : ℕ) : Type 0 where
  pub level : ℕ
  pub shallow : level < LEVELS
  pub sharers : HasMoreThan leaf_size (λ n. IsBody n × (key ≡ key_of (site n) level))

-- Body `n` is named by the word of a cube that its point lies in.
pub record IsNamed (site : ℕ → Site) (at : ℕ → ℕ) (top base : ℕ) (IsCell : ℕ → Type 0) (n : ℕ) : Type 0 where
  pub level : ℕ
  pub shallow : level ≤ LEVELS
  pub named : IsBodyAt at top base IsCell (key_of (site n) level) n

-- The words below the top word name a set of bodies with a set of cells, and below each cell lie more bodies of a set of
-- witnesses than a leaf holds.
pub record StandsAmid (site : ℕ → Site) (at : ℕ → ℕ) (top base : ℕ) (IsCell IsBody IsWitness : ℕ → Type 0) : Type 0 where
  pub keys_differ : (c d : ℕ) → IsCell c → IsCell d → at (key_place c) ≡ at (key_place d) → c ≡ d
  pub cell_named : (c : ℕ) → IsCell c → IsCellAt at top base IsCell (at (key_place c)) c
  pub names_cell : (key c : ℕ) → IsCellAt at top base IsCell key c → IsCell c × (at (key_place c) ≡ key)
  pub body_named : (n : ℕ) → IsBody n → IsNamed site at top base IsCell n
  pub names_body : (key n : ℕ) → IsBodyAt at top base IsCell key n → IsBody n × IsUnder key (site n)
  pub shared : (c : ℕ) → IsCell c → IsShared site IsWitness (at (key_place c))

-- The words stand for a set of bodies: its bodies are the witnesses.
abbrev pub StandsFor : (ℕ → Site) → (ℕ → ℕ) → ℕ → ℕ → (ℕ → Type 0) → (ℕ → Type 0) → Type 0
StandsFor site at top base IsCell IsBody = StandsAmid site at top base IsCell IsBody IsBody

-- The word of the cube of a key stands at a place: the root word's place, or that of a child of a published cell.
pub data IsPlaceOf (at : ℕ → ℕ) (root base : ℕ) (IsCell : ℕ → Type 0) (key place : ℕ) : Type 0 where
  TopPlace : key ≡ base → place ≡ root → IsPlaceOf at root base IsCell key place
  ChildPlace : (c k : ℕ) → IsCell c → k < 8 → key ≡ 8 * at (key_place c) + k → place ≡ child_place c k → IsPlaceOf at root base IsCell key place

-- what is in one set or another
abbrev pub Either : (ℕ → Type 0) → (ℕ → Type 0) → ℕ → Type 0
Either P Q n = P n ⊎ Q n

-- The words changed at one place, to the value `w`.
pub record ChangedAt (at at' : ℕ → ℕ) (place w : ℕ) : Type 0 where
  pub now : at' place ≡ w
  pub others : (i : ℕ) → i ≢ place → at' i ≡ at i

-- the words of a list, from a root word with a key on, name a list of bodies, with a list of cells, amid a list of witnesses
abbrev pub WordsStandAmid : List Site → List ℕ → ℕ → ℕ → List ℕ → List ℕ → List ℕ → Type 0
WordsStandAmid sites words root base cells bodies witnesses =
    StandsAmid (site_at sites) (at_of words) (at_of words root) base (IsIn cells) (IsIn bodies) (IsIn witnesses)

-- the words of a list, from a root word with a key on, stand for a list of bodies, with a list of cells
abbrev pub WordsStandFor : List Site → List ℕ → ℕ → ℕ → List ℕ → List ℕ → Type 0
WordsStandFor sites words root base cells bodies = WordsStandAmid sites words root base cells bodies bodies
