use Rattle.std.proofs.Common.{◌≡◌, map, take}
use Rattle.clap.specs.Simple.{app_of}
use Rattle.nbody_options.specs.Line.{with_options}
use Rattle.nbody_options.proofs.read.with_options.Given as goal

abbrev pub invariant-loop-name : goal.invariant-loop-name
invariant-loop-name l = app_of l.command ≡ with_options (app_of l.fn.line) (map (λ s. s.now) (take l.name-index l.names))
