use Rattle.octant_code.proofs.Roots.{root-is}
use Rattle.octant_code.proofs.numbers.isqrt.Goals as goal

pub returns-else-n-le18446744073709551615-clause-value : goal.returns-else-n-le18446744073709551615-clause-value
returns-else-n-le18446744073709551615-clause-value c = root-is c.args.n c.isqrt.result c.isqrt.ensures.square_le c.isqrt.ensures.next_square_gt
