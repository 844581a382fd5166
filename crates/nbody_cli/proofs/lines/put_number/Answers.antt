use Rattle.std.proofs.Common.{◌≡◌, ◌∙◌}
use Rattle.nbody_cli.proofs.lines.put_number.Goals as goal

pub returns-clause-text : goal.returns-clause-text
returns-clause-text g c =
    let digits : c.as_bytes.result.now ≡ g.I.Integer.text c.args.number = c.as_bytes.ensures.value ∙ c.format.ensures.text in
    rw (← digits) c.put_word.ensures.text
