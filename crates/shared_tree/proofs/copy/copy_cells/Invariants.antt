use Rattle.std.specs.Slots.{slots_items}
use Rattle.shared_tree.specs.Ends.{AreCopied}
use Rattle.shared_tree.proofs.copy.copy_cells.Given as goal

abbrev pub invariant-loop-cell : goal.invariant-loop-cell
invariant-loop-cell l = AreCopied (slots_items l.closed.words) l.fn.out l.out l.cell
