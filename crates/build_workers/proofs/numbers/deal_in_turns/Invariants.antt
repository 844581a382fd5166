use Rattle.std.proofs.Common.{◌≡◌, ◌%◌, map}
use Rattle.bh_model.specs.Bodies.{numbers}
use Rattle.build_workers.specs.Shares.{owned}
use Rattle.build_workers.proofs.numbers.deal_in_turns.Given as goal

abbrev pub invariant-loop-w : goal.invariant-loop-w
invariant-loop-w l = map (λ s. s.items) l.shares.items ≡ map (owned (λ n. n % l.workers) (numbers l.count)) (numbers l.w)
