use Rattle.std.proofs.lemmas.Nat.{mul-lt}
use Rattle.std.proofs.Common.{◌*◌, ◌<◌, ◌^◌, ap, arith, subst, sym}
use Rattle.bh_model.proofs.Terms.{divisor-positive}
use Rattle.force_walk.proofs.term.divisor_of.Goals as goal

pub overflow_mul-result : goal.overflow_mul-result
overflow_mul-result c = omega (arith, mul-lt c.args.r2 c.args.r (2 ^ 42) (2 ^ 21) c.requires.fits c.requires.root_fits)

pub returns-clause-positive : goal.returns-clause-positive
returns-clause-positive c = subst (λ n. 0 < n) (ap (λ n. c.args.r2 * n) (sym c.requires.root_value)) (divisor-positive c.args.r2 c.requires.positive)

pub returns-clause-fits : goal.returns-clause-fits
returns-clause-fits c = omega (arith, mul-lt c.args.r2 c.args.r (2 ^ 42) (2 ^ 21) c.requires.fits c.requires.root_fits)
