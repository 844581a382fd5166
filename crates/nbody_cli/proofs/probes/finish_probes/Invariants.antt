use Rattle.std.proofs.Common.{drop, map}
use Rattle.nbody_cli.specs.Probes.{probe_lines}
use Rattle.nbody_cli.proofs.KeptProbes.{IsWritten}
use Rattle.nbody_cli.proofs.probes.finish_probes.Given as goal

abbrev pub invariant-loop-probe : goal.invariant-loop-probe
invariant-loop-probe g l =
    IsWritten (probe_lines (map (λ b. record {
      kind = (goal.Probe-dyn g (b.vtable, b.value)).kind b.value;
      state = (goal.Probe-dyn g (b.vtable, b.value)).state b.value;
    }) l.fn.probes))
    (probe_lines (map (λ b. record {
      kind = (goal.Probe-dyn g (b.vtable, b.value)).kind b.value;
      state = (goal.Probe-dyn g (b.vtable, b.value)).state b.value;
    }) (drop l.probe-index l.probes)))
    (g.K.Sink.written l.fn.sink) (g.K.Sink.faults l.fn.sink) (g.K.Sink.written l.sink) (g.K.Sink.faults l.sink)
