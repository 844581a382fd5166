use Rattle.bh_model.proofs.MoreThan.{one_of_more}
use Rattle.std.proofs.Common.{sym, refl, arith, below_more}
use Rattle.octant_code.specs.Space.{IsUnder}
use Rattle.octant_code.specs.Points.{site_at}
use Rattle.tree_rule.proofs.Tested.{answer_same, denied, each_member, false_where, member_at, other_of_more, more_of_other, under_same}
use Rattle.tree_rule.proofs.stands.has_more_under.Goals as goal

pub at-requires : goal.at-requires
at-requires c = c.requires.known c.loop-x.x-index 0 (omega arith)

pub returns-then-key_has : goal.returns-then-key_has
returns-then-key_has c = answer_same _ _ _ c.has_other_under.ensures
    (more_of_other (site_at c.args.points.now) c.args.bodies.now c.args.key _ (member_at c.args.bodies.now c.loop-x.x-index (omega arith))
    (under_same c.args.key _ _ c.at.ensures.value (c.if-key_has.ensures.0 refl)))
    (other_of_more (site_at c.args.points.now) c.args.bodies.now c.args.key _)

pub loop-x-preserved : goal.loop-x-preserved
loop-x-preserved c = below_more _ _ c.loop-x.invariant (λ u. denied _ c.if-key_has.ensures (under_same c.args.key _ _ (sym c.at.ensures.value) u))

pub returns : goal.returns
returns c = false_where _ (λ h.
    let o = one_of_more h in
    each_member (λ y. IsUnder c.args.key (site_at c.args.points.now y) → ⊥) c.args.bodies.now
    (λ k l. c.loop-x.invariant k (omega arith)) o.one o.one_is.0 o.one_is.1)
