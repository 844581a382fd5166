use Rattle.std.proofs.Common.{refl, arith}
use Rattle.tree_rule.proofs.Tested.{false_where, in_front, not_once, once_of_later, true_where}
use Rattle.tree_rule.proofs.stands.none_twice.Goals as goal

pub returns-then-is_in : goal.returns-then-is_in
returns-then-is_in c = false_where _ (not_once c.args.list.now c.loop-i.i (omega arith) (in_front _ _ _ (c.if-is_in.ensures.0 refl)))

pub returns : goal.returns
returns c = true_where _ (once_of_later c.args.list.now (λ k l. c.loop-i.invariant k (omega arith)))
