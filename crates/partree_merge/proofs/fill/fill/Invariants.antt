use Rattle.partree_merge.specs.Filling.{IsFilled}
use Rattle.partree_merge.proofs.fill.fill.Given as goal

abbrev pub invariant-loop-i : goal.invariant-loop-i
invariant-loop-i l = IsFilled l.points l.sequence l.initial.own l.own l.i
