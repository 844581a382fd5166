use Rattle.std.proofs.Common.{ℕ, ◌<◌, ◌+◌, ◌*◌, sym, ◌∙◌, ap, subst, refl, arith, below_more}
use Rattle.tree_rule.specs.Words.{at_of, key_place, child_place}
use Rattle.octant_code.specs.Space.{IsKey}
use Rattle.octant_code.specs.Points.{site_at}
use Rattle.tree_rule.specs.Tested.{NamesRightly}
use Rattle.tree_rule.proofs.Tested.{cell_key_small, child_key}
use Rattle.tree_rule.proofs.stands.children_name_rightly.Goals as goal

pub overflow_mul-first : goal.overflow_mul-first
overflow_mul-first c = omega (arith, c.key_word-first.ensures, cell_key_small (at_of c.args.words.now (key_place c.args.c)) c.requires.key)

pub overflow_add-first : goal.overflow_add-first
overflow_add-first c = omega (arith, c.key_word-first.ensures, cell_key_small (at_of c.args.words.now (key_place c.args.c)) c.requires.key)

pub names_rightly-requires-clause-key : goal.names_rightly-requires-clause-key
names_rightly-requires-clause-key c =
    let small : c.loop-k.k < 8 = omega arith in
    subst (λ (x : ℕ). IsKey (8 * x + c.loop-k.k)) (sym c.key_word-first.ensures)
    (child_key (at_of c.args.words.now (key_place c.args.c)) c.loop-k.k c.requires.key small)

pub loop-k-preserved : goal.loop-k-preserved
loop-k-preserved c = below_more _ _ c.loop-k.invariant (
    let right = NamesRightly (site_at c.args.points.now) (at_of c.args.words.now) c.args.cells.now c.args.bodies.now in
    subst (λ (x : ℕ). right (8 * x + c.loop-k.k) (at_of c.args.words.now (child_place c.args.c c.loop-k.k))) c.key_word-first.ensures
    (subst (λ (y : ℕ). right (8 * c.key_word-first.result + c.loop-k.k) y) (c.word_at-w.ensures ∙ ap (at_of c.args.words.now) c.place_of_child.ensures)
    (c.if-not-names_rightly.ensures.0 refl)))
