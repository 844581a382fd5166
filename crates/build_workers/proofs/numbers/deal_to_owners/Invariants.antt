use Rattle.std.proofs.Common.{◌≡◌, ◌-◌, get_or, length, map}
use Rattle.std.specs.Prelude.{min}
use Rattle.bh_model.specs.Bodies.{numbers}
use Rattle.build_workers.specs.Shares.{owned}
use Rattle.build_workers.proofs.numbers.deal_to_owners.Given as goal

abbrev pub invariant-loop-w : goal.invariant-loop-w
invariant-loop-w l = map (λ s. s.items) l.shares.items ≡ map (owned (λ n. min (get_or l.owners n 0) (l.workers - 1)) (numbers (length l.owners))) (numbers l.w)
