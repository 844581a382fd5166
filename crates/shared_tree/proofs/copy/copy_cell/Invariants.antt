use Rattle.std.specs.Slots.{slots_items}
use Rattle.shared_tree.proofs.Copies.{IsRowBegun}
use Rattle.shared_tree.proofs.copy.copy_cell.Given as goal

abbrev pub invariant-loop-part : goal.invariant-loop-part
invariant-loop-part l = IsRowBegun (slots_items l.closed.words) l.fn.out l.out l.cell l.part
