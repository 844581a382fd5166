use Rattle.std.proofs.Common.{◌≡◌, take}
use Rattle.bh_model.specs.Zones.{cost_of}
use Rattle.mass_moments.specs.Kept.{cost_at}
use Rattle.frame_core.proofs.sums.zone_cost.Given as goal

abbrev pub invariant-loop-n : goal.invariant-loop-n
invariant-loop-n l = l.cost ≡ cost_of (cost_at l.costs) (take l.n-index l.zone)
