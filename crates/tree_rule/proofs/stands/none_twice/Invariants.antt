use Rattle.std.proofs.Common.{ℕ, ◌<◌, ◌+◌, get_or, drop}
use Rattle.bh_model.specs.Bodies.{IsIn}
use Rattle.tree_rule.proofs.stands.none_twice.Given as goal

abbrev pub invariant-loop-i : goal.invariant-loop-i
invariant-loop-i l = (k : ℕ) → k < l.i → IsIn (drop (k + 1) l.list) (get_or l.list k 0) → ⊥
