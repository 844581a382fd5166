use Rattle.std.proofs.Common.{◌≡◌}
use Rattle.bh_model.specs.Bodies.{numbers}
use Rattle.library_rows.proofs.plain.numbers_below.Given as goal

abbrev pub invariant-loop-n : goal.invariant-loop-n
invariant-loop-n l = l.list.items ≡ numbers l.n
