use Rattle.std.proofs.Common.{◌-◌, length}
use Rattle.nbody_cli.proofs.KeptProbes.{IsChosen}
use Rattle.nbody_cli.proofs.probes.choose.Given as goal

abbrev pub invariant-loop-at : goal.invariant-loop-at
invariant-loop-at g l =
    IsChosen (λ b. record { kind = (goal.Probe-dyn g (b.vtable, b.value)).kind b.value; state = (goal.Probe-dyn g (b.vtable, b.value)).state b.value })
    l.choice l.fn.probes.items l.probes.items l.at

abbrev pub decreases-loop-at : goal.decreases-loop-at
decreases-loop-at g l = length l.probes.items - l.at
