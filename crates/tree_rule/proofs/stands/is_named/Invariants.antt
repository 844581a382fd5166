use Rattle.std.proofs.Common.{ℕ, ◌<◌, get_or}
use Rattle.tree_rule.specs.Words.{at_of}
use Rattle.tree_rule.specs.Tested.{IsChildWord}
use Rattle.tree_rule.proofs.stands.is_named.Given as goal

abbrev pub invariant-loop-c : goal.invariant-loop-c
invariant-loop-c l = (k : ℕ) → k < l.c-index → IsChildWord (at_of l.words) (get_or l.cells k 0) l.w → ⊥
