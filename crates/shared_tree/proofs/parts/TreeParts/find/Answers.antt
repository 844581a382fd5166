use Rattle.std.proofs.Common.{ℕ, ap, subst, sym, ◌∙◌}
use Rattle.shared_tree.specs.Seen.{IsAtRest}
use Rattle.shared_tree.proofs.Counted.{counted_sought}
use Rattle.shared_tree.proofs.Resting.{rest_sought}
use Rattle.shared_tree.proofs.parts.TreeParts.find.Goals as goal

pub invariant_of-pass : goal.invariant_of-pass
invariant_of-pass g c =
    let e = c.find.ensures in
    let i = c.pass.invariant in
    let f = c.pass.inside in
    let w = c.find.new.pass.me.0 in (
      e.pass.1 ∙ i.0,
      counted_sought f.seat.me.0 w f.published f.changes c.args.p c.find.result e.some e.none i.1,
      subst (λ (z : ℕ). IsAtRest w z f.region.cells f.region.room) (sym (ap (λ z. z.words) e.pass.0))
          (rest_sought f.seat.me.0 w f.seat.table_id.words f.region.cells f.region.room c.args.p c.find.result (e.under ∙ i.2.none_under) e.some e.none i.2),
    )
