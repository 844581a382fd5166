use Rattle.build_times.proofs.Filled.{IsFilled}
use Rattle.build_times.proofs.one_thread.insert_all.Given as goal

abbrev pub invariant-loop-n : goal.invariant-loop-n
invariant-loop-n l = IsFilled l.points l.tree l.n
