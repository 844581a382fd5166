use Rattle.std.proofs.Common.{◌≡◌, ◌-◌}
use Rattle.bh_model.specs.Moments.{matter_by}
use Rattle.bh_model.proofs.PullSums.{pull_upto}
use Rattle.bh_plain.proofs.ListPulls.{octant_pulls}
use Rattle.bh_plain.proofs.pulls.+pull_of_part.Given as goal

abbrev pub decreases-pull_of_part : goal.decreases-pull_of_part
decreases-pull_of_part l = 21 - l.level

abbrev pub invariant-loop-k : goal.invariant-loop-k
invariant-loop-k l = l.sum ≡ pull_upto (octant_pulls l.law (matter_by l.masses l.points) l.n l.level l.key l.bodies) l.k
