use Rattle.std.proofs.Common.{arith}
use Rattle.tree_rule.proofs.Tested.{false_where, true_where}
use Rattle.tree_rule.proofs.stands.are_below.Goals as goal

pub returns-then-x-most : goal.returns-then-x-most
returns-then-x-most c = false_where _ (λ h. omega (arith, h c.loop-x.x-index 0 (omega arith), c.if-x-most.true))

pub returns : goal.returns
returns c = true_where _ (λ k d l. c.loop-x.invariant k d (omega arith))
