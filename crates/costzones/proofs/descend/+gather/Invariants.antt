use Rattle.std.proofs.Common.{◌≡◌, ◌+◌, ◌++◌}
use Rattle.bh_model.specs.Trees.{height}
use Rattle.bh_model.proofs.Folds.{orders}
use Rattle.octree.specs.Spot.{child_under, tree_under}
use Rattle.costzones.proofs.Gatherings.{busies}
use Rattle.costzones.proofs.descend.+gather.Given as goal

abbrev pub decreases-gather : goal.decreases-gather
decreases-gather g l = height (tree_under l.node)

abbrev pub invariant-loop-k : goal.invariant-loop-k
invariant-loop-k g l = record {
  items_are : l.bodies.items ≡ l.fn.bodies.items ++ orders (child_under l.cell) l.k;
  steps_are : l.steps ≡ l.fn.steps + 1 + busies (child_under l.cell) l.k;
}
