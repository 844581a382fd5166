use Rattle.shared_tree.proofs.Starts.{AreCleared}
use Rattle.shared_tree.proofs.start.clear_front.Given as goal

abbrev pub invariant-loop-i : goal.invariant-loop-i
invariant-loop-i l = AreCleared l.words.items l.count l.i
