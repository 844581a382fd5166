-- The number of a status.
use Rattle.std.specs.Prelude.{ℕ}
use Rattle.nbody_cli.specs.declared.status.Status.{Status}
use Rattle.nbody_cli.specs.declared.status.Status.TheVariants.{Done, Usage, Read, Write, Scene, Memory}

-- the number that the program ends with
abbrev pub number_of : Status → ℕ
number_of Done = 0
number_of Usage = 2
number_of Read = 3
number_of Write = 4
number_of Scene = 5
number_of Memory = 6
