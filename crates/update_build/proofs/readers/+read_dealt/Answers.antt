use Rattle.std.proofs.Common.{ℕ, ◌≡◌, ◌+◌, ◌-◌, ◌*◌, ◌<◌, ◌^◌, arith, sym, ◌∙◌, ap, subst}
use Rattle.tree_rule.specs.Words.{at_of, cell_word}
use Rattle.update_build.specs.Dealing.{IsOfWorker, LeaveDealt}
use Rattle.update_build.proofs.Contracting.{child_of, key_small, names_no_cell, place_positive, place_read, place_small}
use Rattle.update_build.proofs.Sharing.{dealt_all, dealt_more, dealt_off, dealt_other, dealt_own, dealt_start}
use Rattle.update_build.proofs.readers.+read_dealt.Goals.{After-index-word, In-Cell}
use Rattle.update_build.proofs.readers.+read_dealt.Goals as goal

-- the word at the place
read : (t : ℕ) (c : After-index-word t) → c.index-word.result.now ≡ at_of c.args.words.now.items c.args.place
read t c =
    place_read c.args.points.now c.args.words.now.items c.args.key c.args.place c.index-word.result.now c.requires.thinned c.requires.place
    c.index-word.ensures

-- names the cell
here : (t : ℕ) (c : In-Cell t) → at_of c.args.words.now.items c.args.place ≡ cell_word c.in-Cell.cell
here t c =
    sym (place_read c.args.points.now c.args.words.now.items c.args.key c.args.place c.index-word.result.now c.requires.thinned c.requires.place
    c.index-word.ensures)
    ∙ c.in-Cell.ensures

-- whose key is that of a level of cells
small : (t : ℕ) (c : In-Cell t) → c.args.key < 2 * 8 ^ 20
small t c =
    key_small c.args.points.now c.args.words.now.items c.args.key c.args.place c.in-Cell.cell c.requires.thinned c.requires.place (here t c)

pub named_by-requires : goal.named_by-requires
named_by-requires t c =
    subst (λ (w : ℕ). w < 2 ^ 33) (sym (read t (goal.at.named_by-requires t c).After-index-word))
    (place_small c.args.points.now c.args.words.now.items c.args.key c.args.place c.len-rule.ensures.rule c.requires.thinned c.requires.place)

pub overflow_mul-child : goal.overflow_mul-child
overflow_mul-child t c = omega (arith, small t (goal.at.overflow_mul-child t c).In-Cell)

pub overflow_add-child : goal.overflow_add-child
overflow_add-child t c = omega (arith, small t (goal.at.overflow_add-child t c).In-Cell, c.from.ensures, c.loop-k-test.true)

pub returns-in_ok-_left-clause-dealt : goal.returns-in_ok-_left-clause-dealt
returns-in_ok-_left-clause-dealt t c =
    dealt_own c.args.points.now c.args.words.now.items (IsOfWorker c.args.workers c.args.worker) c.args.depth c.args.key c.args.place
    c.in_ok-_left._left c.args.edits.now.items c.read_word.new.edits.items c.requires.thinned c.requires.place c.if-depth-eq0.true c.if-key-workers.true
    c.in_ok-_left.ensures.left

pub returns-else-key-workers-clause-dealt : goal.returns-else-key-workers-clause-dealt
returns-else-key-workers-clause-dealt t c =
    dealt_other c.args.points.now c.args.words.now.items (IsOfWorker c.args.workers c.args.worker) c.args.depth c.args.key c.args.edits.now.items
    c.if-depth-eq0.true c.if-key-workers.false

pub returns-in_default : goal.returns-in_default
returns-in_default t c = record {
  inside = c.requires.inside;
  dealt = dealt_off c.args.points.now c.args.words.now.items (IsOfWorker c.args.workers c.args.worker) c.args.depth c.args.key c.args.place
      c.index-word.result.now c.args.edits.now.items c.requires.thinned c.requires.place (read t (goal.at.returns-in_default t c).After-index-word)
      (names_no_cell c.index-word.result.now c.named_by.result c.named_by.ensures c.in_default.not-Cell);
}

pub loop-k-init : goal.loop-k-init
loop-k-init t c = (
  dealt_start c.args.points.now c.args.words.now.items (IsOfWorker c.args.workers c.args.worker) (c.args.depth - 1) c.args.key c.args.edits.now.items,
  c.requires.inside,
)

pub read_dealt-requires : goal.read_dealt-requires
read_dealt-requires t c = (
  omega (arith, c.if-depth-eq0.false),
  (
    c.requires.thinned,
    (
      child_of c.args.points.now c.args.words.now.items c.args.key c.args.place c.in-Cell.cell c.requires.thinned c.requires.place
          (here t (goal.at.read_dealt-requires t c).In-Cell) c.loop-k.k _ _ c.loop-k-test.true (ap (λ y. 8 * c.args.key + y) c.from.ensures)
          c.place_of_child-at.ensures,
      (c.requires.some, c.loop-k.invariant.1),
    ),
  ),
)

pub loop-k-preserved : goal.loop-k-preserved
loop-k-preserved t c = (
  dealt_more c.args.points.now c.args.words.now.items (IsOfWorker c.args.workers c.args.worker) (c.args.depth - 1) c.args.key c.loop-k.k
      c.args.edits.now.items c.loop-k.edits.items c.read_dealt.new.edits.items
      (place_positive c.args.points.now c.args.words.now.items c.args.key c.args.place c.requires.thinned c.requires.place) c.loop-k-test.true
      c.loop-k.invariant.0
      (subst (λ (y : ℕ). LeaveDealt c.args.points.now c.args.words.now.items (IsOfWorker c.args.workers c.args.worker) (c.args.depth - 1)
      (8 * c.args.key + y) c.loop-k.edits.items c.read_dealt.new.edits.items) c.from.ensures c.in_ok-read_dealt.ensures.dealt),
  c.in_ok-read_dealt.ensures.inside,
)

pub returns-clause-dealt : goal.returns-clause-dealt
returns-clause-dealt t c =
    dealt_all c.args.points.now c.args.words.now.items (IsOfWorker c.args.workers c.args.worker) c.args.depth (c.args.depth - 1) c.args.key c.loop-k.k
    c.args.edits.now.items c.loop-k.edits.items (omega (arith, c.if-depth-eq0.false)) (omega (arith, c.loop-k-test.false)) c.loop-k.invariant.0
