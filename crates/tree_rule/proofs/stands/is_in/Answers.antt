use Rattle.std.proofs.Common.{ℕ, ◌≡◌, subst, refl, arith}
use Rattle.bh_model.specs.Bodies.{IsIn}
use Rattle.tree_rule.proofs.Tested.{each_member, false_where, member_at, true_where}
use Rattle.tree_rule.proofs.stands.is_in.Goals as goal

pub returns-then-x-n : goal.returns-then-x-n
returns-then-x-n c = true_where _ (subst (λ (y : ℕ). IsIn c.args.list.now y) c.if-x-n.true (member_at c.args.list.now c.loop-x.x-index (omega arith)))

pub returns : goal.returns
returns c = false_where _ (λ i. each_member (λ y. y ≡ c.args.n → ⊥) c.args.list.now (λ k l. c.loop-x.invariant k (omega arith)) c.args.n i refl)
