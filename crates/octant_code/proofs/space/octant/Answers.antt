use Rattle.std.proofs.Common.{ap}
use Rattle.octant_code.specs.Space.{octant_of}
use Rattle.octant_code.proofs.space.octant.Goals as goal

pub returns-clause-value : goal.returns-clause-value
unfolding octant_of
returns-clause-value c = ap (λ s. octant_of s c.args.level) c.p.view_is
