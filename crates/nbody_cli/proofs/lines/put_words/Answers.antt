use Rattle.std.proofs.Common.{◌++◌, map}
use Rattle.bh_outside.proofs.Texts.{puts_failed, puts_stop, puts_then}
use Rattle.nbody_cli.specs.Lines.{items_text}
use Rattle.nbody_cli.specs.Seen.{item_of}
use Rattle.nbody_cli.proofs.lines.put_words.Goals as goal

pub returns-in_err-put-clause-text : goal.returns-in_err-put-clause-text
returns-in_err-put-clause-text g c =
    let items = items_text (map item_of c.args.items.now) in
    puts_stop _ _ _ _ (c.args.word.now ++ items) _ c.from_residual.ensures.0 (puts_failed _ _ _ c.args.word.now items c.in_err-put.ensures.text)

pub returns-clause-text : goal.returns-clause-text
returns-clause-text g c = puts_then _ _ _ _ _ _ c.args.word.now (items_text (map item_of c.args.items.now)) _ c.in_ok-put.ensures.text c.put_items.ensures.text
