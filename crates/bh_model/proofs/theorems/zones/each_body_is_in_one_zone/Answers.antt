use Rattle.std.proofs.Common.{get_or}
use Rattle.octant_code.specs.Points.{site_at}
use Rattle.bh_model.specs.Trees.{octree}
use Rattle.bh_model.proofs.Cells.{placed_of_points}
use Rattle.bh_model.proofs.Orders.{order_members, order_has_none_twice}
use Rattle.bh_model.proofs.ZoneCuts.{one_zone}
use Rattle.bh_model.proofs.theorems.zones.each_body_is_in_one_zone.Goals as goal

pub returns : goal.returns
returns c n member =
    let site = site_at c.args.points.now in
    let bodies = c.args.bodies.now in
    let placed = placed_of_points c.args.points.now bodies c.len.ensures.rule c.requires.within in
    one_zone (λ m. get_or c.args.costs.now m 0) c.args.workers (octree site bodies) n (order_has_none_twice site bodies)
    ((order_members site bodies n c.requires.distinct placed).1 member) (c.requires.positive n member) c.requires.workers.0
