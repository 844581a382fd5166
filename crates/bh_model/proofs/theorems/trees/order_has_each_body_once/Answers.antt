use Rattle.octant_code.specs.Points.{site_at}
use Rattle.bh_model.proofs.Cells.{placed_of_points}
use Rattle.bh_model.proofs.Orders.{order_members, order_has_none_twice}
use Rattle.bh_model.proofs.theorems.trees.order_has_each_body_once.Goals as goal

pub returns-clause-same_bodies : goal.returns-clause-same_bodies
returns-clause-same_bodies c n =
    order_members (site_at c.args.points.now) c.args.bodies.now n c.requires.distinct
    (placed_of_points c.args.points.now c.args.bodies.now c.len.ensures.rule c.requires.within)

pub returns-clause-once : goal.returns-clause-once
returns-clause-once c = order_has_none_twice (site_at c.args.points.now) c.args.bodies.now
