use Rattle.std.proofs.Common.{arith, refl}
use Rattle.bh_model.proofs.Folds.{order_one, orders_all}
use Rattle.octree.specs.Spot.{child_under}
use Rattle.costzones.proofs.Gatherings.{busies_all, busies_few, busies_next}
use Rattle.costzones.proofs.descend.+gather.Goals as goal

pub returns-in_err-gather-in_default-clause-few : goal.returns-in_err-gather-in_default-clause-few
returns-in_err-gather-in_default-clause-few g t c =
    let f = child_under c.in-Cell.cell in
    omega (
      arith,
      c.gather.ensures.few,
      c.loop-k.invariant.steps_are,
      busies_next f _ c.loop-k.k c.child-child.ensures.tree,
      busies_few f c.loop-k.k c.loop-k-test.true,
      busies_all 8 c.in-Cell.ensures refl,
    )

pub returns-in-Ok-clause-items : goal.returns-in-Ok-clause-items
returns-in-Ok-clause-items g t c = order_one _ _ c.args.bodies.now.items _ c.in-Body.ensures.tree c.in-Ok.ensures.items

pub returns-after-loop-k-clause-items : goal.returns-after-loop-k-clause-items
returns-after-loop-k-clause-items g t c = orders_all _ _ _ c.args.bodies.now.items _ c.in-Cell.ensures.tree c.loop-k.invariant.items_are (omega arith)

pub returns-after-loop-k-clause-opened : goal.returns-after-loop-k-clause-opened
returns-after-loop-k-clause-opened g t c = omega (arith, c.loop-k.invariant.steps_are, busies_all c.loop-k.k c.in-Cell.ensures (omega arith))

pub returns-after-loop-k-clause-few : goal.returns-after-loop-k-clause-few
returns-after-loop-k-clause-few g t c = omega (arith, c.loop-k.invariant.steps_are, busies_all c.loop-k.k c.in-Cell.ensures (omega arith))
