use Rattle.std.proofs.Common.{◌≡◌, length}
use Rattle.bh_model.specs.Trees.{height}
use Rattle.octree.specs.Spot.{tree_under}
use Rattle.shared_tree.specs.Seen.{risen}
use Rattle.shared_tree.proofs.MergeParts.{bodies_before}
use Rattle.shared_tree.proofs.merge.+count_bodies.Given as goal

abbrev pub decreases-count_bodies : goal.decreases-count_bodies
decreases-count_bodies l = height (tree_under l.part.now)

abbrev pub invariant-loop-k : goal.invariant-loop-k
invariant-loop-k l = l.count ≡ risen 0 (length (bodies_before l.part l.k))
