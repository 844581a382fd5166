-- What a publication goes by, and what it leaves.
use Rattle.std.specs.Prelude.{ℕ, ◌≡◌, ◌<◌, ◌≤◌, List}
use Rattle.tree_rule.specs.declared.notes.CellNote.{CellNote}
use Rattle.tree_rule.specs.declared.notes.BodyNote.{BodyNote}
use Rattle.tree_passes.specs.declared.view.View.{View}
use Rattle.tree_passes.specs.Counting.{Has}
use Rattle.tree_passes.specs.Locks.{IsLockOf}
use Rattle.tree_passes.specs.Looks.{Learns}
use Rattle.tree_passes.specs.Passes.{after_publication}
use Rattle.shared_tree.specs.declared.publisher.Batched.{Batched}
use Rattle.shared_tree.specs.declared.publisher.Batched.TheVariants.{Below, These}
use Rattle.shared_tree.specs.declared.publisher.Spot.{Spot}
use Rattle.shared_tree.specs.Copying.{bodies_under}

-- the word and its lock stand in a table of so many words
pub record IsSpot (words : ℕ) (s : Spot) : Type 0 where
  pub inside : s.word < words
  pub lock_inside : s.lock < words
  pub lock_is : IsLockOf s.word s.lock

-- The pass has what it had, and knows what it knew: it may have loaded, and have more notes.
pub record HasLearnt (v w : View) : Type 0 where
  pub loads : ℕ
  pub last : ℕ × ℕ
  pub cell_notes : List CellNote
  pub body_notes : List BodyNote
  pub view : w ≡ record v { loads = loads; last = last; cell_notes = cell_notes; body_notes = body_notes }
  pub more_loads : v.loads ≤ loads
  pub cells_stay : (n : CellNote) → Has v.cell_notes n → Has cell_notes n
  pub bodies_stay : (n : BodyNote) → Has v.body_notes n → Has body_notes n

-- The pass published these cells and bodies by one publication, before which it may have loaded.
pub record HasPublished (v w : View) (cells bodies : List ℕ) : Type 0 where
  pub before : View
  pub learnt : HasLearnt v before
  pub view : w ≡ after_publication before cells bodies

-- Another value was found in the published word at a place, with this key, and is learnt. The pass has what it had.
pub record HasFoundOther (v : View) (i key value : ℕ) (w : View) : Type 0 where
  pub before : View
  pub learnt : HasLearnt v before
  pub learns : Learns before i key value w

-- the bodies of a publication
abbrev pub batch_bodies : Batched → List ℕ
batch_bodies (These list) = list.now
batch_bodies (Below part) = bodies_under part.now
