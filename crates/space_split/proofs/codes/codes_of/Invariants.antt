use Rattle.std.proofs.Common.{◌≡◌, map}
use Rattle.octant_code.specs.Points.{site_at}
use Rattle.octant_code.specs.Space.{key_of}
use Rattle.bh_model.specs.Bodies.{numbers}
use Rattle.space_split.proofs.codes.codes_of.Given as goal

abbrev pub invariant-loop-n : goal.invariant-loop-n
invariant-loop-n l = l.codes.items ≡ map (λ k. key_of (site_at l.points k) 21) (numbers l.n)
