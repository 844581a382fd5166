use Rattle.std.proofs.Common.{◌≡◌, ◌++◌}
use Rattle.bh_model.proofs.Folds.{orders}
use Rattle.octree.specs.Spot.{child_under, tree_under}
use Rattle.bh_model.specs.Trees.{height}
use Rattle.octree.proofs.order.+push_order.Given as goal

abbrev pub decreases-push_order : goal.decreases-push_order
decreases-push_order l = height (tree_under l.at)

abbrev pub invariant-loop-k : goal.invariant-loop-k
invariant-loop-k l = l.bodies.items ≡ l.fn.bodies.items ++ orders (child_under l.cell) l.k
