use Rattle.std.proofs.Common.{◌+◌, ◌*◌, ◌≤◌}
use Rattle.bh_outside.specs.Text.{PutsAll}
use Rattle.bh_model.specs.Trees.{height}
use Rattle.octree.proofs.Texts.{texts}
use Rattle.octree.specs.Spot.{child_under, tree_under}
use Rattle.octree.proofs.text.+put.Given as goal

abbrev pub decreases-put_tree : goal.decreases-put_tree
decreases-put_tree g l = 2 * height (tree_under l.at) + 1

abbrev pub decreases-put_cell : goal.decreases-put_cell
decreases-put_cell g l = 2 * height (tree_under l.cell)

abbrev pub invariant-put_cell-loop-k : goal.invariant-put_cell-loop-k
invariant-put_cell-loop-k g l = record {
  put : PutsAll (g.K.Sink.written l.fn.sink) (g.K.Sink.written l.sink) l.fn.buffer l.buffer (texts (child_under l.cell) l.k);
  faults : g.K.Sink.faults l.fn.sink ≤ g.K.Sink.faults l.sink;
}
