use Rattle.std.proofs.Common.{arith, length-set, refl, subst, true}
use Rattle.octree.proofs.FreeCells.{marked_all, marked_itself, marked_more}
use Rattle.octree.proofs.Laws.{child_height, child_octree}
use Rattle.octree.specs.Spot.{IsReachable, cell_at}
use Rattle.octree.specs.Stored.{Stored}
use Rattle.octree.proofs.free.+marking.Goals as goal

pub mark_cell-bounds-marks-number : goal.mark_cell-bounds-marks-number
mark_cell-bounds-marks-number t c = omega (arith, c.requires.inside (cell_at c.args.cell) c.requires.cell.reached, c.number.ensures)

pub mark_cell-loop-k-init : goal.mark_cell-loop-k-init
mark_cell-loop-k-init t c =
    marked_itself c.args.cell c.number.result.0 c.args.marks.now _ c.number.ensures
    (omega (arith, c.requires.inside (cell_at c.args.cell) c.requires.cell.reached, c.number.ensures)) refl

pub mark_cell-mark_cells-requires : goal.mark_cell-mark_cells-requires
mark_cell-mark_cells-requires t c = (
  omega (arith, child_height _ _ _ _ c.requires.cell c.child.ensures c.loop-k-test.true),
  λ d r.
      let reached = subst (λ (o : Stored). IsReachable o d) (child_octree _ _ _ _ c.requires.cell c.child.ensures) r in
      omega (arith, c.requires.inside d reached, c.loop-k.auto.marks, length-set c.args.marks.now c.number.result.0 true),
)

pub mark_cell-loop-k-preserved : goal.mark_cell-loop-k-preserved
mark_cell-loop-k-preserved t c =
    marked_more c.args.cell c.child.result c.loop-k.k c.args.marks.now c.loop-k.marks c.mark_cells.new.marks c.child.ensures c.loop-k.invariant
    c.mark_cells.ensures

pub mark_cell-returns : goal.mark_cell-returns
mark_cell-returns t c =
    marked_all c.args.cell c.args.cell c.loop-k.k c.args.marks.now c.loop-k.marks c.requires.cell (omega arith) c.loop-k.invariant
