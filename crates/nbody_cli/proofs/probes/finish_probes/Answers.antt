use Rattle.std.proofs.Common.{◌<◌, length, arith}
use Rattle.nbody_cli.proofs.KeptProbes.{lines_from, written_more, written_stop}
use Rattle.nbody_cli.proofs.probes.finish_probes.Goals as goal

pub returns-in_default : goal.returns-in_default
returns-in_default g c =
    let within : c.loop-probe.probe-index < length c.args.probes.now = omega (arith, c.loop-probe-test.true) in
    written_stop _ _ _ _ _ _ _ _ _ _ _ c.loop-probe.invariant
    (lines_from (λ b. record { kind = (goal.Probe-dyn g (b.vtable, b.value)).kind b.value; state = (goal.Probe-dyn g (b.vtable, b.value)).state b.value })
    c.args.probes.now c.loop-probe.probe-index c.probe-item.result within c.probe-item.is) c.write_line.ensures.shows c.in_default.not-Done

pub loop-probe-preserved : goal.loop-probe-preserved
loop-probe-preserved g c =
    let within : c.loop-probe.probe-index < length c.args.probes.now = omega (arith, c.loop-probe-test.true) in
    written_more _ _ _ _ _ _ _ _ _ _ _ c.loop-probe.invariant
    (lines_from (λ b. record { kind = (goal.Probe-dyn g (b.vtable, b.value)).kind b.value; state = (goal.Probe-dyn g (b.vtable, b.value)).state b.value })
    c.args.probes.now c.loop-probe.probe-index c.probe-item.result within c.probe-item.is) c.write_line.ensures.shows c.in-Done.is
