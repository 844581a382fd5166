use Rattle.std.proofs.Common.{ℕ, ◌+◌, arith, get_or, refl, sym, subst}
use Rattle.update_build.specs.Contracting.{CellLeft}
use Rattle.update_build.proofs.Contracting.{IsLeftSoFar, left_all, left_body, left_nothing, left_small, left_two}
use Rattle.update_build.proofs.reading.word_left.Goals.{in-Body+else-left-ne0, in-Nothing}
use Rattle.update_build.proofs.reading.word_left.Goals as goal

pub returns-in-Cell-clause-left : goal.returns-in-Cell-clause-left
returns-in-Cell-clause-left c =
    CellLeft c.loop-k.k c.in-Cell.field-0 (omega (arith, c.loop-k-test.true)) c.word_of_cell.ensures c.in-Cell.ensures

pub returns-in-Cell-clause-small : goal.returns-in-Cell-clause-small
returns-in-Cell-clause-small c = omega (arith, c.word_of_cell.ensures, c.requires.fits)

pub returns-then-left-ne0-clause-left : goal.returns-then-left-ne0-clause-left
returns-then-left-ne0-clause-left c =
    left_two (λ k. get_or c.args.children.now k 0) c.args.cell c.loop-k.k c.loop-k.left _ c.in-Body.field-0 _
    (omega (arith, c.loop-k-test.true)) c.loop-k.invariant c.if-left-ne0.true refl c.in-Body.ensures c.word_of_cell-then-left-ne0.ensures

pub returns-then-left-ne0-clause-small : goal.returns-then-left-ne0-clause-small
returns-then-left-ne0-clause-small c = omega (arith, c.word_of_cell-then-left-ne0.ensures, c.requires.fits)

pub loop-k-preserved : goal.loop-k-preserved
loop-k-preserved c =
    let child : ℕ → ℕ = λ k. get_or c.args.children.now k 0 in
    elim c.match-named_by.branch [
      | in-Nothing w ↦
          subst (λ (y : ℕ). IsLeftSoFar child (c.loop-k.k + 1) y) (sym w.left-is)
          (left_nothing child c.loop-k.k c.loop-k.left c.loop-k.invariant w.in-Nothing.ensures)
      | in-Body+else-left-ne0 w ↦
          subst (λ (y : ℕ). IsLeftSoFar child (c.loop-k.k + 1) y) (sym w.left-is)
          (left_body child c.loop-k.k c.loop-k.left _ w.in-Body.field-0 c.loop-k.invariant w.if-left-ne0.false refl w.in-Body.ensures)
    ]

pub returns-clause-left : goal.returns-clause-left
returns-clause-left c =
    left_all (λ k. get_or c.args.children.now k 0) c.args.cell c.loop-k.k c.loop-k.left (omega arith) c.loop-k.invariant

pub returns-clause-small : goal.returns-clause-small
returns-clause-small c =
    left_small (λ k. get_or c.args.children.now k 0) c.loop-k.k c.loop-k.left (omega arith) c.requires.small c.loop-k.invariant
