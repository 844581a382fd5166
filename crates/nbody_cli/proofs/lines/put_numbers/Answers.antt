use Rattle.std.proofs.Common.{arith}
use Rattle.nbody_cli.proofs.Rows.{row_failed, row_more}
use Rattle.nbody_cli.specs.Lines.{number_text}
use Rattle.nbody_cli.proofs.lines.put_numbers.Goals as goal

pub loop-number-preserved : goal.loop-number-preserved
loop-number-preserved g c = (
  row_more number_text c.args.numbers.now c.loop-number.number-index 0 _ _ _ _ _ _ c.loop-number-test.true c.loop-number.invariant.0 c.in-Ok.ensures.text,
  omega (arith, c.loop-number.invariant.1, c.in-Ok.ensures.cause.later),
)

pub returns-in-Err-clause-text : goal.returns-in-Err-clause-text
returns-in-Err-clause-text g c =
    row_failed number_text c.args.numbers.now c.loop-number.number-index 0 _ _ _ _ _ c.loop-number-test.true c.loop-number.invariant.0 c.in-Err.ensures.text
