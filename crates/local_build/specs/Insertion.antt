-- Bodies that are put into an octree in shares, and the octree with them.
use Rattle.std.specs.Prelude.{ℕ, ◌≡◌, ◌<◌, ◌≤◌, ◌⊎◌, ◌↔◌, List, length}
use Rattle.octant_code.specs.Space.{Site}
use Rattle.bh_model.specs.Bodies.{IsIn, NoneTwice}
use Rattle.tree_rule.specs.Words.{HasBody}
use Rattle.octree.specs.ByKeys.{key_of_cell}
use Rattle.octree.specs.Spot.{IsReachable}
use Rattle.octree.specs.Stored.{IsCanonical, Stored}
use Rattle.tree_passes.specs.Counting.{times}
use Rattle.build_workers.specs.Shares.{times_in_all}

-- Bodies with points of a list, each once, and none of the octree.
pub record AreNew (sites : List Site) (tree : Stored) (bodies : List ℕ) : Type 0 where
  pub once : NoneTwice bodies
  pub points : (n : ℕ) → IsIn bodies n → n < length sites
  pub fresh : (n : ℕ) → IsIn bodies n → HasBody tree.words n → ⊥

-- There are 1 to 64 shares, and between them they hold the bodies, as often as these stand there.
pub record AreSharesOf (bodies : List ℕ) (shares : List (List ℕ)) : Type 0 where
  pub some : 1 ≤ length shares
  pub few : length shares ≤ 64
  pub parted : (n : ℕ) → times n bodies ≡ times_in_all n shares

-- An octree of the whole cube that is canonical at the points of a list and has the bodies of another octree and those of a list. Each cell of the
-- other keeps its number and its key.
pub record IsWithBodies (sites : List Site) (before : Stored) (bodies : List ℕ) (after : Stored) : Type 0 where
  pub base : after.base ≡ 1
  pub canonical : IsCanonical sites after
  pub bodies_are : (n : ℕ) → HasBody after.words n ↔ (HasBody before.words n ⊎ IsIn bodies n)
  pub cells_stay : (c : ℕ) → IsReachable before c → IsReachable after c
  pub keys_stay : (c : ℕ) → IsReachable before c → key_of_cell after c ≡ key_of_cell before c
