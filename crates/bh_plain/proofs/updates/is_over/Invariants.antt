use Rattle.std.proofs.Common.{◌≡◌, false, nat_eq}
use Rattle.std.specs.List.{list_any}
use Rattle.octant_code.specs.Space.{key_of}
use Rattle.bh_model.specs.Bodies.{numbers}
use Rattle.bh_plain.proofs.updates.is_over.Given as goal

abbrev pub invariant-loop-level : goal.invariant-loop-level
invariant-loop-level l = list_any (λ i. nat_eq l.key (key_of l.p i)) (numbers l.level) ≡ false
