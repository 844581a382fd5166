use Rattle.std.proofs.Common.{◌≡◌, map, take}
use Rattle.bh_model.specs.Trees.{greatest}
use Rattle.bh_model.specs.Zones.{cost_of}
use Rattle.mass_moments.specs.Kept.{cost_at}
use Rattle.frame_core.proofs.sums.greatest_cost.Given as goal

abbrev pub invariant-loop-zone : goal.invariant-loop-zone
invariant-loop-zone l = l.most ≡ greatest (map (λ z. cost_of (cost_at l.costs) z.items) (take l.zone-index l.zones))
