use Rattle.std.proofs.Common.{ℕ, ◌<◌, ◌≡◌, get_or}
use Rattle.tree_rule.specs.Words.{body_word}
use Rattle.tree_rule.proofs.stands.is_body_under.Given as goal

abbrev pub invariant-loop-x : goal.invariant-loop-x
invariant-loop-x l = (k : ℕ) → k < l.x-index → body_word (get_or l.bodies k 0) ≡ l.w → ⊥
