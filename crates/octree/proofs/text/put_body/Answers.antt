use Rattle.std.proofs.Common.{◌≡◌, ◌∷◌, [], ◌∙◌, decimal, sym}
use Rattle.bh_outside.proofs.Texts.{puts_failed, puts_then}
use Rattle.octree.proofs.text.put_body.Goals as goal

pub returns-in-Ok-clause-text : goal.returns-in-Ok-clause-text
returns-in-Ok-clause-text g c =
    let digits : c.as_bytes.result.now ≡ decimal c.args.n = c.as_bytes.ensures.value ∙ c.format.ensures.text in
    rw (sym digits) (puts_then _ _ _ _ _ _ (98 ∷ []) c.as_bytes.result.now _ c.in-Ok.ensures.text c.put.ensures.text)

pub returns-in-Err-clause-text : goal.returns-in-Err-clause-text
returns-in-Err-clause-text g c = puts_failed _ _ _ (98 ∷ []) (decimal c.args.n) c.in-Err.ensures.text
