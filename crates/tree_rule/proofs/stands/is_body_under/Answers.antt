use Rattle.std.proofs.Common.{◌≡◌, sym, ◌∙◌, arith}
use Rattle.octant_code.specs.Points.{site_at}
use Rattle.tree_rule.specs.Words.{body_word}
use Rattle.tree_rule.proofs.Tested.{body_found, each_member, false_where, member_at}
use Rattle.tree_rule.proofs.stands.is_body_under.Goals as goal

pub at-requires : goal.at-requires
at-requires c = c.requires.known c.loop-x.x-index 0 (omega arith)

pub returns-then-word_of_body-w : goal.returns-then-word_of_body-w
returns-then-word_of_body-w c =
    body_found c.key_has.result (site_at c.args.points.now) c.args.bodies.now _ c.args.w c.args.key c.at.result
    (sym c.if-word_of_body-w.true ∙ c.word_of_body.ensures)
    (member_at c.args.bodies.now c.loop-x.x-index (omega arith)) c.at.ensures.value c.key_has.ensures

pub returns : goal.returns
returns c = false_where _ (λ i. each_member (λ y. body_word y ≡ c.args.w → ⊥) c.args.bodies.now (λ k l. c.loop-x.invariant k (omega arith)) i.0 i.2 (sym i.1))
