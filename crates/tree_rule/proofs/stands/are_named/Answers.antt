use Rattle.std.proofs.Common.{ℕ, sym, subst, arith}
use Rattle.tree_rule.specs.Words.{at_of, body_word}
use Rattle.tree_rule.specs.Tested.{IsNamedSomewhere}
use Rattle.tree_rule.proofs.Tested.{denied, each_member, false_where, member_at, true_where}
use Rattle.tree_rule.proofs.stands.are_named.Goals as goal

pub returns-then-not-is_named : goal.returns-then-not-is_named
returns-then-not-is_named c = false_where _ (λ h. denied _ c.if-not-is_named.ensures
    (subst (λ (w : ℕ). IsNamedSomewhere (at_of c.args.words.now) c.args.cells.now w) (sym c.word_of_body.ensures)
    (h _ (member_at c.args.bodies.now c.loop-x.x-index (omega arith)))))

pub returns : goal.returns
returns c = true_where _
    (each_member (λ n. IsNamedSomewhere (at_of c.args.words.now) c.args.cells.now (body_word n)) c.args.bodies.now (λ k l. c.loop-x.invariant k (omega arith)))
