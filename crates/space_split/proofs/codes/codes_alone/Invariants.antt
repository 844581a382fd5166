use Rattle.std.proofs.Common.{◌≡◌, map, take}
use Rattle.space_split.specs.declared.codes.Coded.{Coded}
use Rattle.space_split.proofs.codes.codes_alone.Given as goal

abbrev pub invariant-loop-coded : goal.invariant-loop-coded
invariant-loop-coded l = l.codes.items ≡ map (λ (b : Coded). b.code) (take l.coded-index l.bodies)
