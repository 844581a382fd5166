use Rattle.std.proofs.Common.{ℕ, ◌<◌, get_or}
use Rattle.tree_rule.specs.Words.{at_of, body_word}
use Rattle.tree_rule.specs.Tested.{IsNamedSomewhere}
use Rattle.tree_rule.proofs.stands.are_named.Given as goal

abbrev pub invariant-loop-x : goal.invariant-loop-x
invariant-loop-x l = (k : ℕ) → k < l.x-index → IsNamedSomewhere (at_of l.words) l.cells (body_word (get_or l.bodies k 0))
