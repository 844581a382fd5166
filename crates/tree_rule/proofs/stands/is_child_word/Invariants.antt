use Rattle.std.proofs.Common.{ℕ, ◌<◌, ◌≡◌}
use Rattle.tree_rule.specs.Words.{at_of, child_place}
use Rattle.tree_rule.proofs.stands.is_child_word.Given as goal

abbrev pub invariant-loop-k : goal.invariant-loop-k
invariant-loop-k l = (j : ℕ) → j < l.k → at_of l.words (child_place l.c j) ≡ l.w → ⊥
