use Rattle.std.proofs.Common.{arith}
use Rattle.shared_tree.proofs.Copies.{copied_more, none_copied}
use Rattle.shared_tree.proofs.copy.copy_cells.Goals as goal

pub loop-cell-init : goal.loop-cell-init
loop-cell-init c = none_copied _ c.args.out.now c.word.result (omega (arith, c.requires.inside)) c.word.ensures

pub loop-cell-preserved : goal.loop-cell-preserved
loop-cell-preserved c =
    copied_more _ c.args.out.now c.loop-cell.out c.copy_cell.new.out c.loop-cell.cell c.loop-cell.invariant c.copy_cell.ensures
