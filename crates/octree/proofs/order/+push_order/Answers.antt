use Rattle.std.proofs.Common.{arith}
use Rattle.bh_model.proofs.Folds.{order_one, orders_all}
use Rattle.octree.specs.Spot.{child_under}
use Rattle.octree.proofs.order.+push_order.Goals as goal

pub returns-in-Ok : goal.returns-in-Ok
returns-in-Ok t c = order_one _ _ c.args.bodies.now.items c.push.new.self.items c.in-Body.ensures.tree c.in-Ok.ensures.items

pub returns-after-loop-k : goal.returns-after-loop-k
returns-after-loop-k t c =
    orders_all (child_under c.in-Cell.cell) _ c.loop-k.k _ c.loop-k.bodies.items c.in-Cell.ensures.tree c.loop-k.invariant (omega arith)
