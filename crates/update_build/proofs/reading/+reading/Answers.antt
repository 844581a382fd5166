use Rattle.std.proofs.Common.{ℕ, ◌≡◌, ◌+◌, ◌-◌, ◌*◌, ◌<◌, ◌^◌, arith, sym, ◌∙◌, ap, refl, subst, List, [], ◌∷◌, length}
use Rattle.std.proofs.lemmas.List.{length-set}
use Rattle.tree_rule.specs.Words.{at_of, cell_word, child_place}
use Rattle.update_build.specs.declared.edits.Edit.{Edit}
use Rattle.update_build.specs.Contracting.{LeaveAt}
use Rattle.update_build.proofs.Contracting.{child_of, key_small, names_no_cell, place_read, place_small}
use Rattle.update_build.proofs.Editing.{AreLeft, leave_cell, leave_deep, leave_none, leave_same, more_left, none_left, small_more}
use Rattle.update_build.proofs.reading.+reading.Goals.{read_word-After-index-word, read_cell-After-loop-k}
use Rattle.update_build.proofs.reading.+reading.Goals as goal

-- the word at the place
read : (t : ℕ) (c : read_word-After-index-word t) → c.index-word.result.now ≡ at_of c.args.words.now.items c.args.place
read t c =
    place_read c.args.points.now c.args.words.now.items c.args.key c.args.place c.index-word.result.now c.requires.thinned c.requires.place c.index-word.ensures

-- fits
fits : (t : ℕ) (c : read_word-After-index-word t) → c.index-word.result.now < 2 ^ 33
fits t c =
    subst (λ (w : ℕ). w < 2 ^ 33) (sym (read t c))
    (place_small c.args.points.now c.args.words.now.items c.args.key c.args.place c.len-rule.ensures.rule c.requires.thinned c.requires.place)

pub read_word-returns-then-depth-eq0-clause-small : goal.read_word-returns-then-depth-eq0-clause-small
read_word-returns-then-depth-eq0-clause-small t c = fits t (goal.at.read_word-returns-then-depth-eq0-clause-small t c).After-index-word

pub read_word-returns-then-depth-eq0-clause-left : goal.read_word-returns-then-depth-eq0-clause-left
read_word-returns-then-depth-eq0-clause-left t c =
    leave_deep c.args.points.now c.args.words.now.items c.args.depth c.args.key c.args.place c.args.edits.now.items c.index-word.result.now
    c.if-depth-eq0.true c.requires.place (read t (goal.at.read_word-returns-then-depth-eq0-clause-left t c).After-index-word)

pub read_word-named_by-requires : goal.read_word-named_by-requires
read_word-named_by-requires t c = fits t (goal.at.read_word-named_by-requires t c).After-index-word

pub read_word-read_cell-requires : goal.read_word-read_cell-requires
read_word-read_cell-requires t c =
    let at = goal.at.read_word-read_cell-requires t c in (
      omega (arith, c.if-depth-eq0.false),
      (c.requires.thinned, (c.requires.place, (sym (read t at.After-index-word) ∙ c.in-Cell.ensures, c.requires.inside))),
    )

pub read_word-returns-in_default : goal.read_word-returns-in_default
read_word-returns-in_default t c =
    let at = goal.at.read_word-returns-in_default t c in record {
      inside = c.requires.inside;
      small = fits t at.After-index-word;
      left = leave_none c.args.points.now c.args.words.now.items c.args.depth c.args.key c.args.place c.args.edits.now.items c.index-word.result.now
          c.requires.place (read t at.After-index-word)
          (names_no_cell c.index-word.result.now c.named_by.result c.named_by.ensures c.in_default.not-Cell);
    }

pub read_cell-overflow_mul-child : goal.read_cell-overflow_mul-child
read_cell-overflow_mul-child t c =
    omega (arith, key_small c.args.points.now c.args.words.now.items c.args.key c.args.place c.args.cell c.requires.thinned c.requires.place c.requires.cell)

pub read_cell-overflow_add-child : goal.read_cell-overflow_add-child
read_cell-overflow_add-child t c =
    omega (
      arith,
      key_small c.args.points.now c.args.words.now.items c.args.key c.args.place c.args.cell c.requires.thinned c.requires.place c.requires.cell,
      c.from.ensures,
      c.loop-k-test.true,
    )

pub read_cell-loop-k-init : goal.read_cell-loop-k-init
read_cell-loop-k-init t c = (
  none_left c.args.points.now c.args.words.now.items (c.args.below + 1) c.args.key c.args.cell c.args.edits.now.items
      (0 ∷ 0 ∷ 0 ∷ 0 ∷ 0 ∷ 0 ∷ 0 ∷ 0 ∷ []),
  c.requires.inside,
  refl,
  λ j l. absurd (omega arith),
)

pub read_cell-read_word-requires : goal.read_cell-read_word-requires
read_cell-read_word-requires t c = (
  omega arith,
  (
    c.requires.thinned,
    (
      child_of c.args.points.now c.args.words.now.items c.args.key c.args.place c.args.cell c.requires.thinned c.requires.place c.requires.cell
          c.loop-k.k _ _ c.loop-k-test.true (ap (λ y. 8 * c.args.key + y) c.from.ensures) c.place_of_child.ensures,
      c.loop-k.invariant.1,
    ),
  ),
)

pub read_cell-loop-k-preserved : goal.read_cell-loop-k-preserved
read_cell-loop-k-preserved t c =
    let long : length c.loop-k.children ≡ 8 = c.loop-k.invariant.2 in
    let room : c.loop-k.k < length c.loop-k.children = omega (arith, long, c.loop-k-test.true) in
    let one : LeaveAt c.args.points.now c.args.words.now.items c.args.below (8 * c.args.key + c.loop-k.k) (child_place c.args.cell c.loop-k.k)
    c.loop-k.edits.items c.read_word.new.edits.items c.in_ok-children.field-0 =
    subst (λ (y : ℕ). LeaveAt c.args.points.now c.args.words.now.items c.args.below (8 * c.args.key + c.loop-k.k) y c.loop-k.edits.items
    c.read_word.new.edits.items c.in_ok-children.field-0) c.place_of_child.ensures
    (subst (λ (y : ℕ). LeaveAt c.args.points.now c.args.words.now.items c.args.below (8 * c.args.key + y) c.place_of_child.result
    c.loop-k.edits.items c.read_word.new.edits.items c.in_ok-children.field-0) c.from.ensures c.in_ok-children.ensures.left) in (
      more_left c.args.points.now c.args.words.now.items (c.args.below + 1) c.args.key c.args.place c.args.cell c.requires.thinned c.requires.place
          c.requires.cell c.loop-k.k c.args.below c.args.edits.now.items c.loop-k.edits.items
          c.read_word.new.edits.items c.loop-k.children c.in_ok-children.field-0 c.loop-k-test.true room (omega arith)
          c.loop-k.invariant.0 one,
      c.in_ok-children.ensures.inside,
      length-set c.loop-k.children c.loop-k.k c.in_ok-children.field-0 ∙ long,
      small_more c.loop-k.children c.loop-k.k c.in_ok-children.field-0 room c.in_ok-children.ensures.small c.loop-k.invariant.3,
    )

-- all children were read
whole : (t : ℕ) (c : read_cell-After-loop-k t) → c.loop-k.k ≡ 8
whole t c = omega (arith, c.loop-k-test.false)

all : (t : ℕ) (c : read_cell-After-loop-k t)
    → AreLeft c.args.points.now c.args.words.now.items (c.args.below + 1) c.args.key c.args.cell 8 c.args.edits.now.items c.loop-k.edits.items
    c.loop-k.children
all t c =
    subst (λ (y : ℕ). AreLeft c.args.points.now c.args.words.now.items (c.args.below + 1) c.args.key c.args.cell y c.args.edits.now.items
    c.loop-k.edits.items c.loop-k.children) (whole t c) c.loop-k.invariant.0

pub read_cell-word_left-left-requires-clause-fits : goal.read_cell-word_left-left-requires-clause-fits
read_cell-word_left-left-requires-clause-fits t c =
    subst (λ (w : ℕ). w < 2 ^ 33) c.requires.cell
    (place_small c.args.points.now c.args.words.now.items c.args.key c.args.place c.len-rule.ensures.rule c.requires.thinned c.requires.place)

pub read_cell-returns-in_ok-push-clause-left : goal.read_cell-returns-in_ok-push-clause-left
read_cell-returns-in_ok-push-clause-left t c =
    let at = goal.at.read_cell-returns-in_ok-push-clause-left t c in
    subst (λ (z : List Edit). LeaveAt c.args.points.now c.args.words.now.items (c.args.below + 1) c.args.key c.args.place c.args.edits.now.items z
    c.word_left-left.result) (sym {A = List Edit} c.in_ok-push.ensures.items)
    (leave_cell c.args.points.now c.args.words.now.items (c.args.below + 1) c.args.key c.args.place c.args.cell c.requires.thinned c.requires.place
    c.requires.cell c.args.edits.now.items c.loop-k.edits.items c.loop-k.children c.word_left-left.result _ (all t at.After-loop-k)
    c.word_left-left.ensures.left refl refl)

pub read_cell-returns-else-left-word_of_cell-clause-left : goal.read_cell-returns-else-left-word_of_cell-clause-left
read_cell-returns-else-left-word_of_cell-clause-left t c =
    let at = goal.at.read_cell-returns-else-left-word_of_cell-clause-left t c in
    leave_same c.args.points.now c.args.words.now.items (c.args.below + 1) c.args.key c.args.place c.args.cell c.requires.thinned c.requires.place
    c.requires.cell c.args.edits.now.items c.loop-k.edits.items c.loop-k.children c.word_left-left.result (all t at.After-loop-k)
    c.word_left-left.ensures.left (omega (arith, c.if-left-word_of_cell.false, c.word_of_cell.ensures))
