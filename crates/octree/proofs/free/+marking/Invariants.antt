use Rattle.std.proofs.Common.{◌+◌, ◌*◌}
use Rattle.octree.specs.Spot.{tree_under}
use Rattle.bh_model.specs.Trees.{height}
use Rattle.octree.proofs.FreeCells.{AreMarkedUpTo}
use Rattle.octree.proofs.free.+marking.Given as goal

abbrev pub decreases-mark_cells : goal.decreases-mark_cells
decreases-mark_cells l = 2 * height (tree_under l.at) + 1

abbrev pub decreases-mark_cell : goal.decreases-mark_cell
decreases-mark_cell l = 2 * height (tree_under l.cell)

abbrev pub invariant-mark_cell-loop-k : goal.invariant-mark_cell-loop-k
invariant-mark_cell-loop-k l = AreMarkedUpTo l.cell l.k l.fn.marks l.marks
