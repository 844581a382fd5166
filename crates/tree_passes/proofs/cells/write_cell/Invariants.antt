use Rattle.std.proofs.Common.{◌≡◌, [], ◌∷◌}
use Rattle.tree_passes.specs.Making.{HasCellWords, HasWritten}
use Rattle.tree_passes.proofs.cells.write_cell.Given as goal

abbrev pub invariant-loop-k : goal.invariant-loop-k
invariant-loop-k l =
    (l.pass.table_id ≡ l.fn.pass.table_id) × (l.pass.me.1 ≡ l.fn.pass.me.1) × HasWritten l.fn.pass.me.0 l.pass.me.0 (l.cell ∷ [])
    × HasCellWords l.pass.me.0.memory l.cell l.children l.key l.k
