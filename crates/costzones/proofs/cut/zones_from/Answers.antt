use Rattle.bh_model.specs.Zones.{cost_at, zone}
use Rattle.octree.specs.Stored.{tree_of}
use Rattle.costzones.proofs.ZoneLists.{zones_more, zones_none}
use Rattle.costzones.proofs.cut.zones_from.Goals as goal

pub loop-w-init : goal.loop-w-init
loop-w-init g c = zones_none _ _ _ c.new-list.ensures.items

pub loop-w-preserved : goal.loop-w-preserved
loop-w-preserved g c =
    zones_more (λ z. z.items) (λ w. zone (cost_at c.args.costs.now) c.args.workers w (tree_of c.args.tree.now)) c.loop-w.list.items c.push.new.self.items
    c.in_ok-bodies.bodies c.loop-w.w
    c.loop-w.invariant c.in-Ok.ensures.items c.in_ok-bodies.ensures.items
