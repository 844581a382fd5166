-- What a tree is opened with, and what its words are when it is closed.
use Rattle.std.specs.Prelude.{ℕ, ◌≡◌, ◌+◌, ◌<◌, ◌≤◌, ◌⊎◌, ◌↔◌, List, length}
use Rattle.octant_code.specs.declared.limits.TheConstants.{MOST_BODIES}
use Rattle.octant_code.specs.Space.{Site}
use Rattle.octant_code.specs.Points.{site_at, ArePoints}
use Rattle.bh_model.specs.Bodies.{IsIn, NoneTwice}
use Rattle.tree_rule.specs.declared.words.TheConstants.{MOST_CELLS, POOL_PLACE}
use Rattle.tree_rule.specs.Words.{at_of, key_place, lock_place, HasBody, HasCell}
use Rattle.tree_rule.specs.Locks.{AreUnlocked}
use Rattle.tree_rule.specs.Sound.{BodiesUnder}
use Rattle.octree.specs.Stored.{AreOctreeWords, StandsWell, word_count}
use Rattle.tree_passes.specs.Opening.{Opening}

-- The words of a canonical octree, bodies that it has not, and cells of the table that it does not reach.
pub record CanOpen (sites : List Site) (words todo held : List ℕ) : Type 0 where
  pub points : ArePoints sites
  pub octree : AreOctreeWords words
  pub under : BodiesUnder (site_at sites) (at_of words) (at_of words 0) 1
  pub start_in : (x : ℕ) → HasBody words x → x < length sites
  pub todo_once : NoneTwice todo
  pub todo_in : (x : ℕ) → IsIn todo x → x < length sites
  pub todo_fresh : (x : ℕ) → IsIn todo x → HasBody words x → ⊥
  pub held_once : NoneTwice held
  pub held_fresh : (c : ℕ) → IsIn held c → HasCell words c → ⊥
  pub held_inside : (c : ℕ) → IsIn held c → lock_place c < length words

-- The pool word with which a tree with locks may begin: with the quota of the first pass it makes the number of the table's cells, and the cells of the
-- start and of the pass are below it. Without a shared pool the quota is 0.
pub record CanPool (words held : List ℕ) (pool quota : ℕ) : Type 0 where
  pub sum : length words ≡ word_count (pool + quota)
  pub start_given : (c : ℕ) → HasCell words c → c < pool
  pub held_given : (c : ℕ) → IsIn held c → c < pool

-- The words are those of the canonical octree of the start's bodies and those of a list, with each seen body among them, and each cell of the start
-- keeps its number and its key.
pub record IsClosed (o : Opening) (done seen ws : List ℕ) : Type 0 where
  pub cells : ℕ
  pub few : cells ≤ MOST_CELLS
  pub long : length ws ≡ word_count cells
  pub stand : StandsWell o.sites ws 1
  pub cells_held : (c : ℕ) → HasCell ws c → c < cells
  pub bodies_in : (x : ℕ) → HasBody ws x → x < length o.sites
  pub bodies_small : (x : ℕ) → HasBody ws x → x < MOST_BODIES
  pub bodies : (x : ℕ) → HasBody ws x ↔ (HasBody o.words x ⊎ IsIn done x)
  pub seen_in : (x : ℕ) → IsIn seen x → HasBody ws x
  pub cells_stay : (c : ℕ) → HasCell o.words c → HasCell ws c
  pub keys_stay : (c : ℕ) → HasCell o.words c → at_of ws (key_place c) ≡ at_of o.words (key_place c)

-- no lock word and no pool word is set
abbrev pub NoneLocked : List ℕ → Type 0
NoneLocked ws = (cells : ℕ) → length ws ≡ word_count cells → AreUnlocked ws cells

-- The pool word tells which cells were given out: the table has them, and all that are reached are among them.
pub record AreGivenOut (ws : List ℕ) : Type 0 where
  pub within : word_count (at_of ws POOL_PLACE) ≤ length ws
  pub reached : (c : ℕ) → HasCell ws c → c < at_of ws POOL_PLACE
