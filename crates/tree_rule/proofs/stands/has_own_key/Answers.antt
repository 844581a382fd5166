use Rattle.std.proofs.Common.{◌≡◌, sym, ◌∙◌, arith}
use Rattle.tree_rule.specs.Words.{at_of, key_place}
use Rattle.tree_rule.proofs.Tested.{each_member, false_where, member_at, true_where}
use Rattle.tree_rule.proofs.stands.has_own_key.Goals as goal

pub returns-then-key_word-key : goal.returns-then-key_word-key
returns-then-key_word-key c = false_where _ (λ h.
    c.if-d-c.true (sym (h _ (member_at c.args.cells.now c.loop-d.d-index (omega arith))
    (sym c.key_word-key.ensures ∙ sym c.if-key_word-key.true ∙ c.key_word.ensures))))

pub returns : goal.returns
returns c = true_where _ (each_member
    (λ y. at_of c.args.words.now (key_place c.args.c) ≡ at_of c.args.words.now (key_place y) → c.args.c ≡ y) c.args.cells.now
    (λ k l. c.loop-d.invariant k (omega arith)))
