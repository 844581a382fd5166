use Rattle.std.proofs.Common.{nat_eq}
use Rattle.std.specs.HashMap as hash
use Rattle.octant_code.proofs.SeenPoints.{HasSeen, key_at}
use Rattle.octant_code.proofs.points.Points.test.Given as goal

abbrev pub invariant-loop-i : goal.invariant-loop-i
invariant-loop-i l = HasSeen (key_at l.list) (λ q. hash.get nat_eq l.seen q) l.i
