use Rattle.std.proofs.Common.{arith}
use Rattle.std.proofs.lemmas.List.Sums.{sum_by_more_le}
use Rattle.space_split.specs.declared.cube.Cube.{Cube}
use Rattle.space_split.proofs.split.deal.Goals as goal

pub nonzero_div-worker : goal.nonzero_div-worker
nonzero_div-worker c =
    let i = c.loop-cube.cube-index in
    let none : Cube = record { key = 0; start = 0; count = 0 } in
    omega (
      arith,
      sum_by_more_le (λ (q : Cube). q.count) c.args.cubes.now i none c.loop-cube-test.true,
      c.requires.some i none c.loop-cube-test.true,
      c.requires.whole,
      c.from-in-loop-cube-2.ensures,
    )

pub overflow_add-before : goal.overflow_add-before
overflow_add-before c =
    let i = c.loop-cube.cube-index in
    let none : Cube = record { key = 0; start = 0; count = 0 } in
    omega (
      arith,
      sum_by_more_le (λ (q : Cube). q.count) c.args.cubes.now i none c.loop-cube-test.true,
      c.loop-cube.invariant.0,
      c.requires.whole,
      c.ranges.whole,
    )
