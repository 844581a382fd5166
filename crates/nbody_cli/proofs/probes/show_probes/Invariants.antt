use Rattle.std.proofs.Common.{◌-◌, length}
use Rattle.nbody_cli.proofs.KeptProbes.{IsShown}
use Rattle.nbody_cli.proofs.probes.show_probes.Given as goal

abbrev pub invariant-loop-at : goal.invariant-loop-at
invariant-loop-at g l =
    IsShown (λ b. record { kind = (goal.Probe-dyn g (b.vtable, b.value)).kind b.value; state = (goal.Probe-dyn g (b.vtable, b.value)).state b.value })
    l.frame l.fn.probes.items (g.K.Sink.written l.fn.sink) (g.K.Sink.faults l.fn.sink) l.probes.items l.at (g.K.Sink.written l.sink) (g.K.Sink.faults l.sink)

abbrev pub decreases-loop-at : goal.decreases-loop-at
decreases-loop-at g l = length l.probes.items - l.at
