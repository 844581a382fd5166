use Rattle.std.proofs.Common.{◌≡◌, drop, map}
use Rattle.nbody_options.specs.Plain.{name_of}
use Rattle.nbody_options.proofs.plain.name_of.Given as goal

abbrev pub invariant-loop-name : goal.invariant-loop-name
invariant-loop-name l = name_of l.word (map (λ s. s.now) (drop l.name-index l.names)) ≡ name_of l.word (map (λ s. s.now) l.names)
