use Rattle.std.proofs.Common.{◌≡◌, ◌+◌, ◌*◌}
use Rattle.bh_model.proofs.Folds.{counts, deepest_upto}
use Rattle.bh_model.specs.Trees.{height}
use Rattle.octree.specs.Spot.{child_under, tree_under}
use Rattle.octree.proofs.extent.+extent.Given as goal

abbrev pub decreases-extent_of : goal.decreases-extent_of
decreases-extent_of l = 2 * height (tree_under l.at) + 1

abbrev pub decreases-extent_of_cell : goal.decreases-extent_of_cell
decreases-extent_of_cell l = 2 * height (tree_under l.cell)

abbrev pub invariant-extent_of_cell-loop-k : goal.invariant-extent_of_cell-loop-k
invariant-extent_of_cell-loop-k l = record {
  cells : l.cells ≡ 1 + counts (child_under l.cell) l.k;
  depth : l.depth ≡ deepest_upto (child_under l.cell) (l.level + 1) l.k;
}
