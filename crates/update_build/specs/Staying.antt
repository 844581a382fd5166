-- The bodies of a share that leave their cells, and the octree of all bodies that stay in theirs.
use Rattle.std.specs.Prelude.{ℕ, ◌≡◌, ◌↔◌, List, filter, length, not}
use Rattle.octant_code.specs.Points.{site_at}
use Rattle.octant_code.specs.Space.{Site}
use Rattle.bh_model.specs.Bodies.{IsIn, numbers}
use Rattle.bh_model.specs.Movers.{remaining}
use Rattle.tree_rule.specs.Words.{HasBody}
use Rattle.octree.specs.ByKeys.{key_of_cell}
use Rattle.octree.specs.Spot.{IsReachable}
use Rattle.octree.specs.Stored.{IsCanonical, Stored}
use Rattle.update_build.specs.Moving.{keeps}

-- the members of a share that leave their cells, in its order
abbrev pub movers_in : List Site → List Site → List ℕ → List ℕ
movers_in olds news share = filter (λ n. not (keeps olds news n)) share

-- The canonical octree, at their new points, of the bodies that stay in their cells; each of its cells has its number and its key from the octree before.
pub record StaysOf (olds news : List Site) (old tree : Stored) : Type 0 where
  pub base : tree.base ≡ 1
  pub canonical : IsCanonical news tree
  pub bodies : (n : ℕ) → HasBody tree.words n ↔ IsIn (remaining (site_at olds) (site_at news) (numbers (length news))) n
  pub cells : (c : ℕ) → IsReachable tree c → IsReachable old c × (key_of_cell tree c ≡ key_of_cell old c)
