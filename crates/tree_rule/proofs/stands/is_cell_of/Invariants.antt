use Rattle.std.proofs.Common.{ℕ, ◌<◌, ◌≡◌, get_or}
use Rattle.tree_rule.specs.Words.{cell_word}
use Rattle.tree_rule.proofs.stands.is_cell_of.Given as goal

abbrev pub invariant-loop-c : goal.invariant-loop-c
invariant-loop-c l = (k : ℕ) → k < l.c-index → cell_word (get_or l.cells k 0) ≡ l.w → ⊥
