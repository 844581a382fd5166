use Rattle.probe.proofs.Momenta.{momentum_after, summed}
use Rattle.probe.proofs.momentum.MomentumProbe.see.Goals as goal

pub returns-clause-state : goal.returns-clause-state
returns-clause-state c =
    let x = c.next_push-self-inside.ensures in
    let y = c.next_push-self-inside-2.ensures in
    let z = c.next_push-self-inside-3.ensures in
    let sums = c.self.invariant in
    let pushes = c.frame.invariant in
    rw (← c.self.view_is, ← c.frame.view_is)
    (momentum_after _ _ _ _ _ _ _ _ _ c.next_count-self-inside.ensures (summed _ _ _ sums.along_x pushes.x x.within x.value)
    (summed _ _ _ sums.along_y pushes.y y.within y.value) (summed _ _ _ sums.along_z pushes.z z.within z.value))
