use Rattle.std.proofs.Common.{◌≡◌, ◌-◌, get_or}
use Rattle.bh_model.specs.Moments.{matter_by}
use Rattle.bh_plain.proofs.ListMoments.{octants_upto}
use Rattle.bh_plain.proofs.moments.+moment_of_part.Given as goal

abbrev pub decreases-moment_of_part : goal.decreases-moment_of_part
decreases-moment_of_part l = 21 - l.level

abbrev pub invariant-loop-k : goal.invariant-loop-k
invariant-loop-k l = l.sum ≡ octants_upto (matter_by l.masses l.points) (λ n. get_or l.costs n 0) l.level l.bodies l.k
