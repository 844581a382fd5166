use Rattle.std.proofs.Common.{arith}
use Rattle.octant_code.proofs.Decimals.{digits_more, value_more, ten_fits, ten_more}
use Rattle.octant_code.proofs.decimal.short_value.Goals as goal

pub overflow_mul-value : goal.overflow_mul-value
overflow_mul-value c =
    let i = c.loop-byte.byte-index in
    let more = ten_more i c.loop-byte.value 0 c.loop-byte.invariant.small (omega arith) in
    let fits = ten_fits i (omega (arith, c.requires)) in
    omega (arith, more, fits)

pub overflow_add-value : goal.overflow_add-value
overflow_add-value c =
    let i = c.loop-byte.byte-index in
    let fits = ten_fits i (omega (arith, c.requires)) in
    let more = ten_more i c.loop-byte.value c.from.result c.loop-byte.invariant.small (omega (arith, c.from.ensures, c.in-Some.ensures.small)) in
    omega (arith, more, fits)

pub loop-byte-preserved : goal.loop-byte-preserved
loop-byte-preserved c =
    let bytes = c.args.bytes.now in
    let i = c.loop-byte.byte-index in
    let more = value_more bytes i c.loop-byte-test.true in
    record {
      digits = digits_more bytes i c.loop-byte-test.true c.loop-byte.invariant.digits c.in-Some.ensures.digit;
      value = rw more (omega (arith, c.loop-byte.invariant.value, c.in-Some.ensures.value, c.from.ensures));
      small = ten_more i c.loop-byte.value c.from.result c.loop-byte.invariant.small (omega (arith, c.from.ensures, c.in-Some.ensures.small));
    }
