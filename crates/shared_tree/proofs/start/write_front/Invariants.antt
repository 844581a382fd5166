use Rattle.shared_tree.proofs.Starts.{AreWritten}
use Rattle.shared_tree.proofs.start.write_front.Given as goal

abbrev pub invariant-loop-i : goal.invariant-loop-i
invariant-loop-i l = AreWritten l.front l.fn.zeros.items l.zeros.items l.i
