use Rattle.std.proofs.Common.{◌≡◌, sym, refl, arith}
use Rattle.octant_code.specs.Space.{IsUnder}
use Rattle.octant_code.specs.Points.{site_at}
use Rattle.tree_rule.proofs.Tested.{each_member, false_where, member_at, true_where, under_same}
use Rattle.tree_rule.proofs.stands.has_other_under.Goals as goal

pub at-requires : goal.at-requires
at-requires c = c.requires.known c.loop-x.x-index 0 (omega arith)

pub returns-then-key_has : goal.returns-then-key_has
returns-then-key_has c = true_where _ (record {
  other = _;
  other_in = member_at c.args.bodies.now c.loop-x.x-index (omega arith);
  differ = λ e. c.if-x-one.true (sym e);
  other_under = under_same c.args.key _ _ c.at.ensures.value (c.if-key_has.ensures.0 refl);
})

pub returns : goal.returns
returns c = false_where _ (λ h. each_member (λ y. (c.args.one ≡ y → ⊥) → IsUnder c.args.key (site_at c.args.points.now y) → ⊥) c.args.bodies.now
    (λ k l. c.loop-x.invariant k (omega arith)) h.other h.other_in h.differ h.other_under)
