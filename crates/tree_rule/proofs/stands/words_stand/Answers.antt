use Rattle.std.proofs.Common.{ℕ, ◌<◌, All, length, refl, sym, subst}
use Rattle.octant_code.specs.Points.{site_at}
use Rattle.tree_rule.specs.Words.{at_of}
use Rattle.tree_rule.specs.Flat.{TopPlace}
use Rattle.tree_rule.specs.Tested.{NamesRightly}
use Rattle.tree_rule.proofs.Tested.{denied, false_where, right_cell, right_word, whole_answer}
use Rattle.tree_rule.proofs.stands.words_stand.Goals as goal

pub returns-then-not-names_rightly : goal.returns-then-not-names_rightly
returns-then-not-names_rightly c =
    let site = site_at c.args.points.now in
    let at = at_of c.args.words.now in
    false_where _ (λ h. denied _ c.if-not-names_rightly.ensures
    (subst (λ (x : ℕ). NamesRightly site at c.args.cells.now c.args.bodies.now 1 x) (sym c.word_at-root.ensures)
    (right_word site at c.args.cells.now c.args.bodies.now h.1 1 0 (TopPlace refl refl))))

pub returns-then-not-are_right_cells : goal.returns-then-not-are_right_cells
returns-then-not-are_right_cells c =
    false_where _ (λ h. denied _ c.if-not-are_right_cells.ensures
    (right_cell (site_at c.args.points.now) (at_of c.args.words.now) c.args.cells.now c.args.bodies.now h.1))

pub returns : goal.returns
returns c =
    let site = site_at c.args.points.now in
    let at = at_of c.args.words.now in
    whole_answer c.are_named.result (length c.args.points.now) site at c.args.cells.now c.args.bodies.now
    (subst (λ (m : ℕ). All (λ n. n < m) c.args.bodies.now) c.len.ensures.value (c.if-not-are_below.ensures.0 refl))
    (c.if-not-none_twice.ensures.0 refl)
    (subst (λ (x : ℕ). NamesRightly site at c.args.cells.now c.args.bodies.now 1 x) c.word_at-root.ensures (c.if-not-names_rightly.ensures.0 refl))
    (c.if-not-are_right_cells.ensures.0 refl)
    c.are_named.ensures
