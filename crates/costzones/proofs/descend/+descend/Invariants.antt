use Rattle.bh_model.specs.Trees.{height}
use Rattle.bh_model.specs.Zones.{cost_at}
use Rattle.octree.specs.Spot.{child_under, tree_under}
use Rattle.costzones.proofs.Descents.{IsGathered}
use Rattle.costzones.proofs.descend.+descend.Given as goal

abbrev pub decreases-descend : goal.decreases-descend
decreases-descend g l = height (tree_under l.node)

abbrev pub invariant-loop-k : goal.invariant-loop-k
invariant-loop-k g l =
    IsGathered (cost_at l.cut.costs.now) l.cut.low l.cut.high l.before (child_under l.cell) l.fn.bodies.items l.fn.steps l.k l.bodies.items l.at l.steps
