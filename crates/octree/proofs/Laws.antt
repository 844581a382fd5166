-- The laws of octrees for proofs of the crates above.
use Rattle.std.proofs.Common.{ℕ, ◌<◌, List, length, sym, subst}
use Rattle.octant_code.specs.Points.{site_at}
use Rattle.octant_code.specs.Space.{Site}
use Rattle.bh_model.proofs.Orders.{body_in_order, child_in_order, numbers_in_order}
use Rattle.bh_model.specs.Bodies.{IsIn}
use Rattle.bh_model.specs.Trees.{Tree, order}
use Rattle.octree.specs.Spot.{Spot, child_under, tree_under}
use Rattle.octree.specs.Stored.{IsOctreeOf, Stored, tree_of}
use Rattle.octree.specs.Subtree.{IsBodyAt, IsCellAt, IsChildOf}
pub use Rattle.octree.proofs.Subtrees.{bodies_of_tree, child_height, child_octree}
-- nothing is read below an empty root word, and the whole cube is of level 0
pub use Rattle.octree.proofs.ReadWords.{reached_blank}
pub use Rattle.octree.proofs.WholeWords.{whole_level}
-- lists that rise
pub use Rattle.octree.proofs.FreeCells.{rising_once}
-- an octree with no body, and that every point lies in the whole cube
pub use Rattle.octree.proofs.Builds.{empty_canonical, under_whole}
-- two bodies in one cube
pub use Rattle.octree.proofs.Chains.{octant_under, pair_cube, pair_deeper}

-- each body of the octree of all points is the number of a point
pub body_known : (sites : List Site) (o : Stored) (n : ℕ) → IsOctreeOf sites o → IsIn (order (tree_of o)) n → n < length sites
body_known sites o n rule i = numbers_in_order (site_at sites) (length sites) n (subst (λ (t : Tree). IsIn (order t) n) rule.tree i)

-- the body of a subtree of one body
pub top_body_inside : (s : Spot) (n : ℕ) → IsBodyAt s n → IsIn (order (tree_under s)) n
top_body_inside s n at = body_in_order (tree_under s) n at.tree

-- the bodies of a child are the subtree's
pub child_bodies : (s cell child : Spot) (k n : ℕ) → IsCellAt s cell → IsChildOf cell k child → k < 8 → IsIn (order (tree_under child)) n
    → IsIn (order (tree_under s)) n
child_bodies s cell child k n at is small i =
    subst (λ (t : Tree). IsIn (order t) n) (sym at.tree)
    (child_in_order (child_under cell) k n small (subst (λ (t : Tree). IsIn (order t) n) is.tree i))
