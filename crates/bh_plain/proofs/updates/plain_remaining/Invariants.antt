use Rattle.std.proofs.Common.{◌≡◌, filter, take}
use Rattle.octant_code.specs.Points.{site_at}
use Rattle.bh_model.specs.Movers.{keeps_leaf}
use Rattle.bh_plain.proofs.updates.plain_remaining.Given as goal

abbrev pub invariant-loop-n : goal.invariant-loop-n
invariant-loop-n l = l.kept.items ≡ filter (λ n. keeps_leaf (site_at l.old) (site_at l.new) l.bodies n) (take l.n-index l.bodies)
