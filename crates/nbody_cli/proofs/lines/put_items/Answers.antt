use Rattle.std.proofs.Common.{arith}
use Rattle.std.proofs.lemmas.List.Folds.{flat_map-map}
use Rattle.nbody_cli.proofs.Rows.{row_all, row_failed, row_more}
use Rattle.nbody_cli.specs.Lines.{item_text}
use Rattle.nbody_cli.specs.Seen.{item_of}
use Rattle.nbody_cli.proofs.lines.put_items.Goals as goal

pub loop-item-preserved : goal.loop-item-preserved
loop-item-preserved g c = (
  row_more (λ x. item_text (item_of x)) c.args.items.now c.loop-item.item-index _ _ _ _ _ _ _ c.loop-item-test.true c.loop-item.invariant.0
      c.in-Ok.ensures.text,
  omega (arith, c.loop-item.invariant.1, c.in-Ok.ensures.cause.later),
)

pub returns-in-Err-clause-text : goal.returns-in-Err-clause-text
returns-in-Err-clause-text g c =
    rw (flat_map-map item_text item_of c.args.items.now)
    (row_failed (λ x. item_text (item_of x)) c.args.items.now c.loop-item.item-index _ _ _ _ _ _ c.loop-item-test.true c.loop-item.invariant.0
    c.in-Err.ensures.text)

pub returns-clause-text : goal.returns-clause-text
returns-clause-text g c = row_all item_text item_of c.args.items.now c.loop-item.item-index _ _ _ _ c.loop-item-test.false c.loop-item.invariant.0
