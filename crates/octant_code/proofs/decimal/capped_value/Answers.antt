use Rattle.std.proofs.Common.{arith}
use Rattle.octant_code.proofs.Decimals.{digits_more, value_more}
use Rattle.octant_code.proofs.decimal.capped_value.Goals as goal

pub loop-byte-preserved : goal.loop-byte-preserved
loop-byte-preserved c =
    let bytes = c.args.bytes.now in
    let i = c.loop-byte.byte-index in
    let more = value_more bytes i c.loop-byte-test.true in
    record {
      digits = digits_more bytes i c.loop-byte-test.true c.loop-byte.invariant.digits c.in-Some.ensures.digit;
      value = rw more (omega (arith, c.loop-byte.invariant.value, c.in-Some.ensures.value, c.from.ensures, c.min-value.ensures));
    }
