use Rattle.std.proofs.Common.{◌∙◌, arith, ap, refl}
use Rattle.tree_passes.specs.declared.view.TheConstants.{KEY_PART}
use Rattle.tree_passes.specs.declared.view.View.{View}
use Rattle.tree_passes.proofs.Made.{child_written, held_on, key_written, wrote_more, wrote_word}
use Rattle.tree_passes.proofs.cells.write_cell.Goals as goal

pub loop-k-init : goal.loop-k-init
loop-k-init c =
    let w = c.write_word.ensures in (
      w.pass.0,
      w.pass.1,
      wrote_word _ _ c.args.cell KEY_PART _ (omega arith) w.wrote,
      key_written c.args.pass.now.me.0.memory _ c.args.cell _ _ (ap (λ (z : View). z.memory) w.wrote) (omega (arith, c.requires.inside, c.requires.long)),
    )

pub write_word-requires-in-loop-k-clause-place : goal.write_word-requires-in-loop-k-clause-place
write_word-requires-in-loop-k-clause-place c = c.loop-k.invariant.0 ∙ c.requires.place

pub write_word-requires-in-loop-k-clause-held : goal.write_word-requires-in-loop-k-clause-held
write_word-requires-in-loop-k-clause-held c = held_on _ _ _ _ c.loop-k.invariant.2 c.requires.held

pub loop-k-preserved : goal.loop-k-preserved
loop-k-preserved c =
    let i = c.loop-k.invariant in
    let w = c.write_word-in-loop-k.ensures in (
      w.pass.0 ∙ i.0,
      w.pass.1 ∙ i.1,
      wrote_more _ _ _ _ _ _ i.2 (wrote_word _ _ c.args.cell c.loop-k.k _ (omega arith) w.wrote) (λ d p. p) (λ d p. p),
      child_written _ _ _ _ _ _ _ i.3 (omega arith) (ap (λ (z : View). z.memory) w.wrote) refl (omega (arith, c.requires.inside, c.requires.long, i.2.long)),
    )
