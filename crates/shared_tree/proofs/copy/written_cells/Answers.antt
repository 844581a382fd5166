use Rattle.std.proofs.Common.{◌≡◌, ◌-◌, ap, sym, inl, inr, ◌∙◌, arith}
use Rattle.std.proofs.lemmas.Bool.{cases_lt}
use Rattle.std.specs.Slots.{slots_items}
use Rattle.tree_rule.specs.Words.{at_of, key_place}
use Rattle.shared_tree.proofs.Copies.{told_at}
use Rattle.shared_tree.proofs.copy.written_cells.Goals as goal

pub loop-init : goal.loop-init
loop-init c = (omega arith, λ k a b. absurd (omega arith))

pub loop-preserved : goal.loop-preserved
loop-preserved c =
    let i = c.loop.invariant in (
      omega (arith, i.0),
      λ k a b. elim (cases_lt k c.loop.written) [
        | inl l ↦
            let e : k ≡ c.loop.written - 1 = omega arith in
            ap (λ z. at_of (slots_items c.args.closed.now.words) (key_place z)) e
            ∙ sym (ap (at_of (slots_items c.args.closed.now.words)) c.place_of_key.ensures)
            ∙ told_at (slots_items c.args.closed.now.words) c.place_of_key.result c.word.result c.word.ensures ∙ c.if-word-ne0.false
        | inr past ↦ i.1 k past b
      ],
    )
