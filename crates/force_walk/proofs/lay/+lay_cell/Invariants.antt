use Rattle.bh_model.specs.Trees.{height}
use Rattle.mass_moments.specs.Kept.{matter_of}
use Rattle.octree.specs.Spot.{tree_under}
use Rattle.force_walk.proofs.Layings.{AreAddedUpTo}
use Rattle.force_walk.proofs.lay.+lay_cell.Given as goal

abbrev pub decreases-lay_cell : goal.decreases-lay_cell
decreases-lay_cell l = height (tree_under l.cell.now)

abbrev pub invariant-loop-k : goal.invariant-loop-k
invariant-loop-k l = AreAddedUpTo (matter_of l.bodies) l.least l.down l.cell l.k l.fn.laid l.laid
