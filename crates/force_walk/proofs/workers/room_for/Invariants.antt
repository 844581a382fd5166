use Rattle.std.proofs.Common.{◌≡◌, length, map, take}
use Rattle.force_walk.proofs.workers.room_for.Given as goal

abbrev pub invariant-loop-w : goal.invariant-loop-w
invariant-loop-w l = map (λ p. length p.items) l.lists.items ≡ map (λ z. length z.items) (take l.w l.zones)
