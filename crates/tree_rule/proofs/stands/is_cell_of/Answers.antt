use Rattle.std.proofs.Common.{◌≡◌, sym, ◌∙◌, arith}
use Rattle.tree_rule.specs.Words.{at_of, cell_word}
use Rattle.tree_rule.proofs.Tested.{cell_found, each_member, false_where, member_at}
use Rattle.tree_rule.proofs.stands.is_cell_of.Goals as goal

pub returns-then-word_of_cell-w : goal.returns-then-word_of_cell-w
returns-then-word_of_cell-w c =
    cell_found (at_of c.args.words.now) c.args.cells.now _ c.args.w c.key_word.result c.args.key (sym c.if-word_of_cell-w.true ∙ c.word_of_cell.ensures)
    (member_at c.args.cells.now c.loop-c.c-index (omega arith)) c.key_word.ensures

pub returns : goal.returns
returns c = false_where _ (λ i. each_member (λ y. cell_word y ≡ c.args.w → ⊥) c.args.cells.now (λ k l. c.loop-c.invariant k (omega arith)) i.0 i.2 (sym i.1))
