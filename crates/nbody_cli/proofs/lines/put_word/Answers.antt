use Rattle.std.proofs.Common.{[], ◌∷◌}
use Rattle.bh_outside.proofs.Texts.{puts_failed, puts_stop, puts_then}
use Rattle.nbody_cli.proofs.lines.put_word.Goals as goal

pub returns-in_err-put_byte-clause-text : goal.returns-in_err-put_byte-clause-text
returns-in_err-put_byte-clause-text g c =
    puts_stop _ _ _ _ (32 ∷ c.args.word.now) _ c.from_residual.ensures.0 (puts_failed _ _ _ (32 ∷ []) c.args.word.now c.in_err-put_byte.ensures.text)

pub returns-clause-text : goal.returns-clause-text
returns-clause-text g c = puts_then _ _ _ _ _ _ (32 ∷ []) c.args.word.now _ c.in_ok-put_byte.ensures.text c.put.ensures.text
