use Rattle.std.proofs.Common.{◌≡◌, map}
use Rattle.bh_model.specs.Bodies.{numbers}
use Rattle.frame_core.specs.Shares.{share_below}
use Rattle.frame_core.proofs.shares.first_shares.Given as goal

abbrev pub invariant-loop-n : goal.invariant-loop-n
invariant-loop-n l = map (λ z. z.items) l.shares.items ≡ map (share_below l.n l.workers l.count) (numbers l.workers)
