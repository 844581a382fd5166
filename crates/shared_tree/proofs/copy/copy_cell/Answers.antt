use Rattle.std.proofs.Common.{◌+◌, refl, arith}
use Rattle.shared_tree.proofs.Copies.{row_copied, row_more}
use Rattle.shared_tree.proofs.copy.copy_cell.Goals as goal

pub loop-part-init : goal.loop-part-init
loop-part-init c = record { long = refl; row = λ j l. absurd (omega arith); front = λ i l. refl; rest = λ i l. refl }

pub loop-part-preserved : goal.loop-part-preserved
loop-part-preserved c =
    row_more _ c.args.out.now c.loop-part.out c.args.cell c.loop-part.part (c.place_of_child-first.result + c.loop-part.part) c.word.result
    c.loop-part.invariant (omega arith) (omega (arith, c.place_of_child-first.ensures)) (omega (arith, c.requires.inside)) c.word.ensures

pub returns : goal.returns
returns c =
    row_copied _ c.args.out.now c.loop-part.out c.args.cell c.loop-part.part c.place_of_lock.result c.loop-part.invariant (omega arith)
    c.place_of_lock.ensures (omega (arith, c.requires.inside))
