use Rattle.std.proofs.Common.{arith, sym, ◌∙◌}
use Rattle.bh_plain.proofs.ListUpdates.{level_found, levels_more, levels_none}
use Rattle.bh_plain.proofs.updates.is_over.Goals as goal

pub loop-level-init : goal.loop-level-init
loop-level-init c = levels_none c.args.key c.args.p

pub returns-then-key-key_at : goal.returns-then-key-key_at
returns-then-key-key_at c = level_found c.args.key c.args.p c.loop-level.level (omega (arith, c.loop-level-test.true)) (c.if-key-key_at.true ∙ c.key_at.ensures)

pub loop-level-preserved : goal.loop-level-preserved
loop-level-preserved c =
    levels_more c.args.key c.args.p c.loop-level.level c.loop-level.invariant (λ e. c.if-key-key_at.false (e ∙ sym c.key_at.ensures))
