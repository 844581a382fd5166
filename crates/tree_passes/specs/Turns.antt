-- What passes know between the steps of one call: on the way down, after an insertion, and after a search.
use Rattle.std.specs.Prelude.{ℕ, ◌≡◌, ◌≢◌, ◌+◌, ◌<◌, ◌≤◌, ◌⊎◌, List, ◌∷◌, length}
use Rattle.octant_code.specs.declared.limits.TheConstants.{LEVELS}
use Rattle.octant_code.specs.Space.{Site, key_of}
use Rattle.octant_code.specs.Points.{site_at}
use Rattle.tree_rule.specs.declared.notes.CellNote.{CellNote}
use Rattle.tree_rule.specs.declared.notes.BodyNote.{BodyNote}
use Rattle.tree_rule.specs.Words.{body_word, cell_word}
use Rattle.tree_passes.specs.declared.view.View.{View}
use Rattle.tree_passes.specs.Counting.{times, Has, without}
use Rattle.tree_passes.specs.Passes.{body_note, cell_note, Met}
use Rattle.tree_passes.specs.Looks.{FoundBody, FoundCell}

-- The pass has what it had, and knows what it knew: it may have loaded, and written into its cells.
pub record IsStill (v w : View) : Type 0 where
  pub points : w.points ≡ v.points
  pub opening : w.bodies ≡ v.bodies
  pub long : length w.memory ≡ length v.memory
  pub held : w.held ≡ v.held
  pub quota : w.quota ≡ v.quota
  pub published : w.published ≡ v.published
  pub todo : w.todo ≡ v.todo
  pub done : w.done ≡ v.done
  pub seen : w.seen ≡ v.seen
  pub changes : w.changes ≡ v.changes
  pub locks : w.locks ≡ v.locks
  pub more_loads : v.loads ≤ w.loads
  pub cell_notes : (n : CellNote) → Has v.cell_notes n → Has w.cell_notes n
  pub body_notes : (n : BodyNote) → Has v.body_notes n → Has w.body_notes n

-- The pass knows the cell to be published with this key.
pub record IsBelow (v : View) (key d : ℕ) : Type 0 where
  pub note : Has v.cell_notes (cell_note d key)
  pub cell : FoundCell v key d

-- The pass knows that the word at a place, of this key, named the body.
pub record IsThere (v : View) (word key x : ℕ) : Type 0 where
  pub note : Has v.body_notes (body_note word x)
  pub body : FoundBody v key x

-- What was found in a word with this key that is not empty.
pub record IsFound (v : View) (word key found : ℕ) : Type 0 where
  pub there : found ≢ 0
  pub body : (x : ℕ) → found ≡ body_word x → IsThere v word key x
  pub cell : (d : ℕ) → found ≡ cell_word d → IsBelow v key d

-- The pass goes on below a cell.
pub record Descends (v w : View) (key d : ℕ) : Type 0 where
  pub still : IsStill v w
  pub below : IsBelow w key d

-- Body n has gone from todo to done, with these cells, by one publication. The other lists stay.
pub record IsInserted (v w : View) (n : ℕ) (cells : List ℕ) : Type 0 where
  pub points : w.points ≡ v.points
  pub opening : w.bodies ≡ v.bodies
  pub long : length w.memory ≡ length v.memory
  pub held : (c : ℕ) → times c w.held + times c cells ≡ times c v.held
  pub quota : w.quota ≡ v.quota
  pub todo : w.todo ≡ without n v.todo
  pub done : w.done ≡ n ∷ v.done
  pub seen : w.seen ≡ v.seen
  pub changes : w.changes ≡ v.changes + 1
  pub locks : w.locks ≡ v.locks

-- the last word that was loaded has the key of a cube that holds the point, and this value
abbrev pub LoadedLast : View → Site → ℕ → Type 0
LoadedLast w point value = (level : ℕ) × (level ≤ LEVELS) × (w.last ≡ (key_of point level, value))

-- A body with the point was found in the word that was loaded last, and is seen.
pub record HasFound (v w : View) (point : Site) (b : ℕ) : Type 0 where
  pub has : site_at v.points b ≡ point
  pub b_in : b < length v.points
  pub plain : View
  pub still : IsStill v plain
  pub view : w ≡ record plain { seen = b ∷ plain.seen }
  pub loaded : v.loads < w.loads
  pub last : LoadedLast w point (body_word b)

-- Nothing was found: no body that the pass has done or seen has the point, and the word that was loaded last is empty or names another body.
pub record HasNone (v w : View) (point : Site) : Type 0 where
  pub still : IsStill v w
  pub none_met : (x : ℕ) → Met v x → site_at v.points x ≢ point
  pub loaded : v.loads < w.loads
  pub last : (value : ℕ) × LoadedLast w point value × ((value ≡ 0) ⊎ ((y : ℕ) × (value ≡ body_word y) × (site_at v.points y ≢ point)))
