use Rattle.std.proofs.Common.{arith}
use Rattle.std.proofs.lemmas.Int.{ints}
use Rattle.drift.proofs.Axes.{reached, turned}
use Rattle.drift.proofs.axis.along.Goals as goal
use Rattle.drift.proofs.axis.along.Goals.{else-target-ge0-via-then-target-ge0+else-target-lt-SIDE, else-target-ge0-via-else-target-ge0}

pub returns-then-target-lt-SIDE-clause-value : goal.returns-then-target-lt-SIDE-clause-value
returns-then-target-lt-SIDE-clause-value c = reached _ _ _ _ (omega (arith, ints)) (grind (arith, ints)) (grind (arith, ints))

pub returns-else-target-ge0-clause-value : goal.returns-else-target-ge0-clause-value
returns-else-target-ge0-clause-value c = turned _ _ _ (omega (arith, ints)) (λ from. elim c.else-target-ge0.branch [
  | else-target-ge0-via-then-target-ge0+else-target-lt-SIDE w ↦ grind (arith, ints)
  | else-target-ge0-via-else-target-ge0 w ↦ grind (arith, ints)
])
