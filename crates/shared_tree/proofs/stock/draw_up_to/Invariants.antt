use Rattle.std.proofs.Common.{◌≡◌, ◌+◌, length}
use Rattle.tree_passes.specs.Making.{IsReady}
use Rattle.shared_tree.specs.Seen.{HasDrawn}
use Rattle.shared_tree.proofs.stock.draw_up_to.Given as goal

abbrev pub invariant-loop : goal.invariant-loop
invariant-loop l =
    (l.pass.table_id ≡ l.fn.pass.table_id) × (l.pass.me.1 ≡ l.fn.pass.me.1) × (l.region.room ≡ l.fn.region.room)
    × (length l.region.cells ≡ length l.fn.region.cells + l.counter) × HasDrawn l.fn.pass.me.0 l.pass.me.0 l.fn.region.cells l.region.cells
    × IsReady l.pass.me.0 l.table.table_id.words l.region.cells
