use Rattle.std.proofs.Common.{◌≤◌, ◌∙◌, ℕ, List, [], ◌∷◌, ap, length, subst, sym, arith, length-append}
use Rattle.tree_passes.specs.Making.{IsReady}
use Rattle.shared_tree.specs.Seen.{HasDrawn}
use Rattle.shared_tree.proofs.Stocks.{drawn_absent, drawn_more, ready_drawn}
use Rattle.shared_tree.proofs.stock.draw_up_to.Goals as goal

pub give-requires-clause-absent : goal.give-requires-clause-absent
give-requires-clause-absent c = drawn_absent _ _ _ c.loop.region.cells c.draw_cell-cell.result c.loop.invariant.5 c.draw_cell-cell.ensures.drawn

pub loop-preserved : goal.loop-preserved
loop-preserved c =
    let i = c.loop.invariant in
    let e = c.draw_cell-cell.ensures in
    let w = c.draw_cell-cell.new.pass.me.0 in
    let cells = c.loop.region.cells in
    let number = c.draw_cell-cell.result in
    let last = c.loop-test.true in
    let some : 1 ≤ c.loop.pass.me.0.quota =
    omega (arith, i.4.quota, i.3, c.requires.drawable, last, c.min-count.ensures, c.room.ensures, c.len-cells.ensures.value) in (
      e.pass.0 ∙ i.0,
      e.pass.1 ∙ i.1,
      c.give.ensures.room ∙ i.2,
      omega (arith, ap length c.give.ensures.cells, length-append cells (number ∷ []), i.3),
      subst (λ (z : List ℕ). HasDrawn c.args.pass.now.me.0 w c.args.region.now.cells z) (sym c.give.ensures.cells)
          (drawn_more c.args.pass.now.me.0 c.loop.pass.me.0 w c.args.region.now.cells cells number i.4 some e.drawn),
      subst (λ (z : List ℕ). IsReady w c.args.table.now.table_id.words z) (sym c.give.ensures.cells)
          (ready_drawn c.loop.pass.me.0 w c.args.table.now.table_id.words cells number i.5 e.drawn),
    )
