use Rattle.std.proofs.Common.{map}
use Rattle.nbody_cli.proofs.Stages.{IsOnTheWay}
use Rattle.nbody_cli.specs.Serving.{output}
use Rattle.nbody_cli.proofs.Turns.{IsOrig}
use Rattle.nbody_cli.proofs.frames.run_locked.Given as goal

abbrev pub invariant-loop-number : goal.invariant-loop-number
invariant-loop-number g l =
    IsOnTheWay IsOrig (map (λ b. record {
      kind = (goal.Probe-dyn g (b.vtable, b.value)).kind b.value;
      state = (goal.Probe-dyn g (b.vtable, b.value)).state b.value;
    }) l.fn.probes.items)
    l.options (record { bodies = l.fn.engine.bodies; passes = l.passes })
    (output (g.K.Sink.written l.fn.sink) (g.K.Sink.faults l.fn.sink) l.fn.locked) l.number
    (output (g.K.Sink.written l.sink) (g.K.Sink.faults l.sink) l.locked) l.engine
    (map (λ b. record { kind = (goal.Probe-dyn g (b.vtable, b.value)).kind b.value; state = (goal.Probe-dyn g (b.vtable, b.value)).state b.value })
    l.kept.items)
