-- The rule of a tree whose published words are written under locks, and whose cells may come from a shared pool.
use Rattle.std.specs.Prelude.{ℕ, ◌≡◌, ◌+◌, ◌<◌, ◌≤◌, List, length}
use mathlib.Core.Option.{some}
use lib.ListN.{get_elem?}
use Rattle.atomic_table.specs.Table.{State}
use Rattle.tree_rule.specs.Words.{at_of, child_place, lock_place, HasCell}
use Rattle.octree.specs.Stored.{word_count}
use Rattle.tree_rule.specs.declared.words.TheConstants.{POOL_PLACE, ROOT_LOCK}
use Rattle.tree_passes.specs.declared.view.View.{View}
use Rattle.tree_passes.specs.Counting.{times, sum_of, Has}
use Rattle.tree_passes.specs.Opening.{Opening}
use Rattle.tree_passes.specs.Rule.{Kept}

-- the place is that of a lock word: the root word's, or a cell's
pub data IsLock (w : ℕ) : Type 0 where
  RootsLock : w ≡ ROOT_LOCK → IsLock w
  CellsLock : (c : ℕ) → w ≡ lock_place c → IsLock w

-- the lock of the word at a place
pub data IsLockOf (i w : ℕ) : Type 0 where
  OfRoot : i ≡ 0 → w ≡ ROOT_LOCK → IsLockOf i w
  OfChild : (c k : ℕ) → k < 8 → i ≡ child_place c k → w ≡ lock_place c → IsLockOf i w

-- What a pass has of locks and of the pool: it holds at most one lock, what it loaded or stored under it stays, and its cells were given out.
pub record Holds (ws : List ℕ) (v : View) : Type 0 where
  pub few : length v.locks ≤ 1
  pub are_locks : (w : ℕ) → 1 ≤ times w v.locks → IsLock w
  pub under : (i n : ℕ) → Has v.under (i, n) → (at_of ws i ≡ n) × ((w : ℕ) × IsLockOf i w × (1 ≤ times w v.locks))
  pub given : (c : ℕ) → 1 ≤ times c v.published + times c v.held → c < at_of ws POOL_PLACE

-- The rule: a lock word counts the passes that hold the lock, of which there is at most one. The pool word and the quotas of all passes add up to
-- the number of the table's cells, and no cell of the start or of a pass is at the pool word or above it. Where all cells are in regions, no pass has a
-- quota, and the pool word stands at the number of cells.
pub record Locked (o : Opening) (s : State (Unit {0}) View) : Type 0 where
  pub kept : Kept o s
  pub counted : (w : ℕ) → IsLock w → at_of s.words w ≡ sum_of (λ v. times w v.locks) s.views
  pub one : (w : ℕ) → sum_of (λ v. times w v.locks) s.views ≤ 1
  pub holds : (id : ℕ) (v : View) → get_elem? s.views id ≡ some v → Holds s.words v
  pub pool : length s.words ≡ word_count (at_of s.words POOL_PLACE + sum_of (λ v. v.quota) s.views)
  pub given : (c : ℕ) → HasCell o.words c → c < at_of s.words POOL_PLACE
