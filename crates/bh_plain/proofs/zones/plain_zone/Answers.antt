use Rattle.std.proofs.Common.{◌∙◌}
use Rattle.octant_code.specs.Points.{site_at}
use Rattle.bh_plain.proofs.ListZones.{order_within}
use Rattle.bh_plain.proofs.zones.plain_zone.Goals as goal

pub zone_of_order-requires : goal.zone_of_order-requires
zone_of_order-requires c =
    order_within (site_at c.args.points.now) c.args.bodies.now c.deref.result.now _ (c.deref.ensures.value ∙ c.in_ok-order.ensures) c.requires.costed
