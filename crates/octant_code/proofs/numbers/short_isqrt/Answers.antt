use Rattle.octant_code.proofs.Roots.{root-is, root-tested}
use Rattle.octant_code.proofs.numbers.short_isqrt.Goals as goal

pub returns-then-n-r-clause-value : goal.returns-then-n-r-clause-value
returns-then-n-r-clause-value c = root-tested c.args.n c.root_guess-r.result c.if-r-n.true c.if-n-r.true

pub returns-else-r-le4294967295-clause-value : goal.returns-else-r-le4294967295-clause-value
returns-else-r-le4294967295-clause-value c = root-is c.args.n c.isqrt.result c.isqrt.ensures.square_le c.isqrt.ensures.next_square_gt
