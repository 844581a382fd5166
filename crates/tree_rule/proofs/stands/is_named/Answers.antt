use Rattle.std.proofs.Common.{◌∙◌, refl, arith}
use Rattle.tree_rule.specs.Words.{at_of}
use Rattle.tree_rule.proofs.Tested.{false_where, member_at, named_by_child, not_published, true_where}
use Rattle.tree_rule.proofs.stands.is_named.Goals as goal

pub returns-then-is_child_word : goal.returns-then-is_child_word
returns-then-is_child_word c = true_where _
    (named_by_child (at_of c.args.words.now) c.args.cells.now _ c.args.w (member_at c.args.cells.now c.loop-c.c-index (omega arith))
    (c.if-is_child_word.ensures.0 refl))

pub returns : goal.returns
returns c = false_where _ (λ h. not_published (at_of c.args.words.now) c.args.cells.now c.args.w h.key h.place
    (λ e. c.if-word_at-w.false (c.word_at.ensures ∙ e)) (λ k l. c.loop-c.invariant k (omega arith)) h.published h.named)
