use Rattle.std.proofs.Common.{◌≡◌, map}
use Rattle.bh_model.specs.Bodies.{numbers}
use Rattle.bh_model.specs.Zones.{cost_at, zone}
use Rattle.octree.specs.Stored.{tree_of}
use Rattle.costzones.proofs.cut.zones_from.Given as goal

abbrev pub invariant-loop-w : goal.invariant-loop-w
invariant-loop-w g l = map (λ z. z.items) l.list.items ≡ map (λ w. zone (cost_at l.costs) l.workers w (tree_of l.tree)) (numbers l.w)
