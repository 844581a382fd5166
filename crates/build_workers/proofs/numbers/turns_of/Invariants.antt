use Rattle.std.proofs.Common.{◌≡◌, ◌%◌}
use Rattle.bh_model.specs.Bodies.{numbers}
use Rattle.build_workers.specs.Shares.{owned}
use Rattle.build_workers.proofs.numbers.turns_of.Given as goal

abbrev pub invariant-loop-n : goal.invariant-loop-n
invariant-loop-n l = l.share.items ≡ owned (λ n. n % l.workers) (numbers l.n) l.w
