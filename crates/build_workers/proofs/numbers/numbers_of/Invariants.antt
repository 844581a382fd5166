use Rattle.std.proofs.Common.{◌≡◌, get_or}
use Rattle.std.specs.Prelude.{min}
use Rattle.bh_model.specs.Bodies.{numbers}
use Rattle.build_workers.specs.Shares.{owned}
use Rattle.build_workers.proofs.numbers.numbers_of.Given as goal

abbrev pub invariant-loop-n : goal.invariant-loop-n
invariant-loop-n l = l.share.items ≡ owned (λ n. min (get_or l.owners n 0) l.last) (numbers l.n) l.w
