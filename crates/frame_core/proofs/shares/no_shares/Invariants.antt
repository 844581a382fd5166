use Rattle.std.proofs.Common.{◌≡◌, [], map, replicate}
use Rattle.frame_core.proofs.shares.no_shares.Given as goal

abbrev pub invariant-loop : goal.invariant-loop
invariant-loop l = map (λ z. z.items) l.shares.items ≡ replicate l.counter []
