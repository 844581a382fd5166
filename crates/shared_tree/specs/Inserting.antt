-- What an insertion goes by, and what it leaves.
use Rattle.std.specs.Prelude.{ℕ, ◌≡◌, ◌+◌, ◌<◌, ◌≤◌, List, [], ◌∷◌, length, take}
use Rattle.octant_code.specs.declared.limits.TheConstants.{LEVELS}
use Rattle.octant_code.specs.Space.{Site, key_of}
use Rattle.octant_code.specs.Points.{site_at, ArePoints}
use Rattle.tree_rule.specs.declared.words.TheConstants.{CELLS_OF_ONE, MOST_CELLS, POOL_PLACE}
use Rattle.octree.specs.Stored.{word_count}
use Rattle.tree_passes.specs.declared.view.View.{View}
use Rattle.tree_passes.specs.Counting.{times, without}
use Rattle.tree_passes.specs.Passes.{KnowsPlace}
use Rattle.tree_passes.specs.Turns.{Descends}
use Rattle.shared_tree.specs.declared.publisher.Spot.{Spot}
use Rattle.shared_tree.specs.declared.descent.Turn.{Turn}
use Rattle.shared_tree.specs.declared.descent.Turn.TheVariants as turn
use Rattle.shared_tree.specs.Publishing.{IsSpot}

-- Body n has gone from todo to done by one publication, with these cells. The other lists, the quota and the locks stay.
pub record IsPutIn (v w : View) (n : ℕ) (cells : List ℕ) : Type 0 where
  pub points : w.points ≡ v.points
  pub opening : w.bodies ≡ v.bodies
  pub long : length w.memory ≡ length v.memory
  pub held : (c : ℕ) → times c w.held + times c cells ≡ times c v.held
  pub taken : length cells ≤ CELLS_OF_ONE
  pub quota : w.quota ≡ v.quota
  pub todo : w.todo ≡ without n v.todo
  pub done : w.done ≡ n ∷ v.done
  pub seen : w.seen ≡ v.seen
  pub changes : w.changes ≡ v.changes + 1
  pub locks : w.locks ≡ v.locks

-- The pass has come to the published word of a cube that holds the point of body n, which it is to put in. It knows where the word stands, and holds no
-- lock.
pub record IsAt (v : View) (words : ℕ) (sites : List Site) (n : ℕ) (s : Spot) : Type 0 where
  pub points : v.points ≡ sites
  pub long : length v.memory ≡ words
  pub some : POOL_PLACE < words
  pub few : words ≤ word_count MOST_CELLS
  pub rule : ArePoints sites
  pub n_in : n < length sites
  pub todo : 1 ≤ times n v.todo
  pub low : s.level ≤ LEVELS
  pub spot : IsSpot words s
  pub known : KnowsPlace v s.word (key_of (site_at sites n) s.level)
  pub no_lock : v.locks ≡ []
  pub none_under : v.under ≡ []

-- What a visit of a word leads to: body n is put in, with so many of the cells, or the way goes on below a cell that the word names.
abbrev pub LeadsTo : View → View → ℕ → List ℕ → ℕ → Turn → Type 0
LeadsTo v w n spare key (turn.Done used) = (used ≤ length spare) × IsPutIn v w n (take used spare)
LeadsTo v w n spare key (turn.Below d) = Descends v w key d
