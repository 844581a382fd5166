-- What a pass knows of the shared words, and its view after a step.
use Rattle.std.specs.Prelude.{ℕ, ◌≡◌, ◌+◌, ◌-◌, ◌*◌, ◌<◌, ◌≤◌, ◌⊎◌, List, [], ◌++◌, length}
use Rattle.octant_code.specs.Space.{Site}
use Rattle.tree_rule.specs.declared.notes.CellNote.{CellNote}
use Rattle.tree_rule.specs.declared.notes.BodyNote.{BodyNote}
use Rattle.tree_rule.specs.Words.{at_of, child_place, lock_place, HasBody, HasCell}
use Rattle.tree_rule.specs.Flat.{IsPlaceOf}
use Rattle.tree_rule.specs.Notes.{HasNamed, IsPublishedAs}
use Rattle.tree_passes.specs.declared.view.TheConstants.{ROW_WORDS}
use Rattle.tree_passes.specs.declared.view.View.{View}
use Rattle.tree_passes.specs.Counting.{times, Has, without_all}
use Rattle.tree_passes.specs.Opening.{Opening, all_bodies}

-- the cell is one of the start, or was published, as a count says
abbrev pub IsCell : Opening → (ℕ → ℕ) → ℕ → Type 0
IsCell o cells c = HasCell o.words c ⊎ (1 ≤ cells c)

-- the body is one of the start, or was put in, as a count says
abbrev pub IsBody : Opening → (ℕ → ℕ) → ℕ → Type 0
IsBody o bodies n = HasBody o.words n ⊎ (1 ≤ bodies n)

-- a note of a published cell with its key
abbrev pub cell_note : ℕ → ℕ → CellNote
cell_note c key = record { cell = c; key = key }

-- a note that the word at a place named a body
abbrev pub body_note : ℕ → ℕ → BodyNote
body_note place n = record { place = place; body = n }

-- the pass knows the word at a place to be the published one of this key
abbrev pub KnowsPlace : View → ℕ → ℕ → Type 0
KnowsPlace v i key =
    ((i ≡ 0) × (key ≡ 1))
    ⊎ ((c : ℕ) × (k : ℕ) × (above : ℕ) × Has v.cell_notes (cell_note c above) × (k < 8) × (i ≡ child_place c k) × (key ≡ 8 * above + k))

-- the body was put in by this pass, or it was told of it
abbrev pub Met : View → ℕ → Type 0
Met v x = 1 ≤ times x v.done + times x v.seen

-- the word at a place is that of the cube of some key
abbrev pub HasKey : (ℕ → ℕ) → (ℕ → Type 0) → ℕ → Type 0
HasKey at P i = (key : ℕ) × IsPlaceOf at 0 1 P key i

-- What is true of a pass: the words of the cells that it holds are those that it wrote, and its notes, what it has seen and what it learnt under
-- a lock are of published words.
pub record Knows (o : Opening) (ws : List ℕ) (cells bodies : ℕ → ℕ) (v : View) : Type 0 where
  pub points : v.points ≡ o.sites
  pub opening : v.bodies ≡ all_bodies o
  pub long : length v.memory ≡ length ws
  pub memory : (c j : ℕ) → 1 ≤ times c v.held → j < ROW_WORDS → at_of ws (child_place c j) ≡ at_of v.memory (child_place c j)
  pub inside : (c : ℕ) → 1 ≤ times c v.held → lock_place c < length ws
  pub cell_notes : (c key : ℕ) → Has v.cell_notes (cell_note c key) → IsPublishedAs (at_of ws) (IsCell o cells) c key
  pub body_notes : (i x : ℕ) → Has v.body_notes (body_note i x) → HasNamed (at_of ws) 0 1 (IsCell o cells) i x
  pub seen : (x : ℕ) → 1 ≤ times x v.seen → IsBody o bodies x
  pub under : (i n : ℕ) → Has v.under (i, n) → HasKey (at_of ws) (IsCell o cells) i

-- the view with other notes
abbrev pub noted : View → List CellNote → List BodyNote → View
noted v cell_notes body_notes = record v { cell_notes = cell_notes; body_notes = body_notes }

-- the view after a load of a published word with this key
abbrev pub loaded : View → ℕ → ℕ → View
loaded v key value = record v { loads = v.loads + 1; last = (key, value) }

-- the view after a publication of these cells and bodies
abbrev pub after_publication : View → List ℕ → List ℕ → View
after_publication v cells bodies = record v {
  todo = without_all bodies v.todo;
  done = bodies ++ v.done;
  changes = v.changes + 1;
  held = without_all cells v.held;
  published = cells ++ v.published;
}

-- what a pass keeps that is split
abbrev pub kept_part : List ℕ → List ℕ → ℕ → View → View
kept_part cells bodies quota v = record v { todo = without_all bodies v.todo; held = without_all cells v.held; quota = v.quota - quota }

-- the new pass, which has these cells, bodies and quota, and has seen what the other had seen or done
abbrev pub given_part : List ℕ → List ℕ → ℕ → View → View
given_part cells bodies quota v = record v {
  held = cells;
  quota = quota;
  published = [];
  todo = bodies;
  done = [];
  seen = v.done ++ v.seen;
  changes = 0;
  loads = 0;
  last = (0, 0);
  locks = [];
  under = [];
  cell_notes = [];
  body_notes = [];
}

-- a pass that has taken another in
abbrev pub joined : View → View → View
joined v u = record v {
  todo = v.todo ++ u.todo;
  done = v.done ++ u.done;
  seen = v.seen ++ u.seen;
  changes = v.changes + u.changes;
  published = v.published ++ u.published;
  quota = v.quota + u.quota;
}

-- what is left of the pass that was taken in
abbrev pub spent : List Site → List ℕ → List ℕ → View
spent points bodies memory = record {
  points = points;
  bodies = bodies;
  memory = memory;
  held = [];
  quota = 0;
  published = [];
  todo = [];
  done = [];
  seen = [];
  changes = 0;
  loads = 0;
  last = (0, 0);
  locks = [];
  under = [];
  cell_notes = [];
  body_notes = [];
}
