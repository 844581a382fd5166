use Rattle.std.proofs.Common.{arith, refl, ◌∙◌, ◌/◌, length-set}
use Rattle.space_split.proofs.Spread.{spread_small, table_more}
use Rattle.space_split.proofs.interleave.spreads.Goals as goal

pub loop-k-preserved : goal.loop-k-preserved
loop-k-preserved c = (
  length-set c.loop-k.table _ _ ∙ c.loop-k.invariant.0,
  table_more c.loop-k.table c.loop-k.k _ c.loop-k.invariant.0 (omega (arith, c.loop-k.auto.k)) c.loop-k-test.true refl c.loop-k.invariant.1,
)

pub returns : goal.returns
returns c = λ k l. c.loop-k.invariant.1 k (omega (arith, l, c.loop-k-test.false))

pub overflow_mul-table : goal.overflow_mul-table
overflow_mul-table c =
    omega (arith, c.loop-k.invariant.1 (c.loop-k.k / 2) (omega (arith, c.loop-k.auto.k)), spread_small 7 (c.loop-k.k / 2))

pub overflow_add-table : goal.overflow_add-table
overflow_add-table c =
    omega (arith, c.loop-k.invariant.1 (c.loop-k.k / 2) (omega (arith, c.loop-k.auto.k)), spread_small 7 (c.loop-k.k / 2))
