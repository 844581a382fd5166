use Rattle.std.proofs.Common.{ℕ, ◌<◌, ◌≡◌, get_or}
use Rattle.tree_rule.specs.Words.{at_of, key_place}
use Rattle.tree_rule.proofs.stands.has_own_key.Given as goal

abbrev pub invariant-loop-d : goal.invariant-loop-d
invariant-loop-d l = (k : ℕ) → k < l.d-index → at_of l.words (key_place l.c) ≡ at_of l.words (key_place (get_or l.cells k 0)) → l.c ≡ get_or l.cells k 0
