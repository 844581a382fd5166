use Rattle.std.proofs.Common.{◌≡◌, OnOk, subst}
use Rattle.probe.proofs.Momenta.{momentum_line}
use Rattle.probe.proofs.momentum.MomentumProbe.line.Goals as goal

pub returns : goal.returns
returns c =
    rw (← c.self.view_is)
    (subst (λ xs. OnOk c.put_named-4.result (c.put_named-4.new.out.items ≡ xs))
    (momentum_line _ _ _ _ _ _ _ _ c.self.invariant c.in_ok-put_named.ensures c.in_ok-put_named-2.ensures c.in_ok-put_named-3.ensures)
    c.put_named-4.ensures)
