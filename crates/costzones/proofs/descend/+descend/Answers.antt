use Rattle.std.proofs.Common.{◌+◌, ℕ, [], arith, rules, ap, sym, ◌∙◌}
use Rattle.std.proofs.lemmas.Bool.{ltb-true}
use Rattle.bh_model.specs.Zones.{cost_at}
use Rattle.octree.proofs.Laws.{child_bodies, child_height, child_octree}
use Rattle.octree.specs.Spot.{tree_under}
use Rattle.costzones.specs.Ranges.{meets}
use Rattle.costzones.proofs.Descents.{cost_fits, costs_positive, gathered_all, gathered_broken, gathered_more, gathered_none, taken_apart, taken_before}
use Rattle.costzones.proofs.Descents.{taken_none, taken_one}
use Rattle.costzones.proofs.Gatherings.{IsWhole, whole_inside}
use Rattle.costzones.proofs.descend.+descend.Goals.{After-gather, then-meets+in_ok-descend-in-Cell, else-meets}
use Rattle.costzones.proofs.descend.+descend.Goals as goal

pub loop-k-init : goal.loop-k-init
loop-k-init g t c = gathered_none _ _ _ _ _ _ _ _ c.tick.ensures

pub cost_of-requires-clause-costs_of_bodies : goal.cost_of-requires-clause-costs_of_bodies
cost_of-requires-clause-costs_of_bodies g t c n i =
    c.requires.costs_of_bodies n (child_bodies _ _ _ _ n c.in-Cell.ensures c.child-child.ensures c.loop-k-test.true i)

pub overflow_add-next : goal.overflow_add-next
overflow_add-next g t c =
    omega (
      arith,
      cost_fits c.loop-k.invariant c.loop-k-test.true c.child-child.ensures.tree c.in-Cell.ensures.tree,
      c.cost_of.ensures,
      c.requires.after,
      c.ranges.after,
    )

pub descend-requires : goal.descend-requires
descend-requires g t c κs within =
    let cut = c.args.cut.now in
    let same = child_octree _ _ _ _ c.in-Cell.ensures c.child-child.ensures in
    let met = ap (λ n. meets cut.low cut.high c.loop-k.at (c.loop-k.at + n)) (sym c.cost_of.ensures) ∙ sym c.meets.ensures ∙ c.if-meets.true in (
      omega (arith, child_height _ _ _ _ c.in-Cell.ensures c.child-child.ensures c.loop-k-test.true),
      (
        search rules,
        (
          λ n i. c.requires.costs_of_bodies n (child_bodies _ _ _ _ n c.in-Cell.ensures c.child-child.ensures c.loop-k-test.true i),
          (c.requires.costs, (rw same c.requires.moments, (omega (arith, c.cost_of.ensures), met))),
        ),
      ),
    )

pub returns-in_err-descend-in-Cell-clause-few : goal.returns-in_err-descend-in-Cell-clause-few
returns-in_err-descend-in-Cell-clause-few g t c =
    gathered_broken c.loop-k.invariant c.in-Cell.ensures.tree c.requires.meets _ c.loop-k-test.true c.child-child.ensures.tree c.descend.ensures.few

pub loop-k-preserved : goal.loop-k-preserved
loop-k-preserved g t c =
    let one = costs_positive (tree_under c.child-child.result) c.args.cut.now.costs.now
    (λ n i. c.requires.costs_of_bodies n (child_bodies _ _ _ _ n c.in-Cell.ensures c.child-child.ensures c.loop-k-test.true i)) c.requires.costs in
    let next = ap (λ n. c.loop-k.at + n) c.cost_of.ensures in
    elim c.if-meets.branch [
      | then-meets+in_ok-descend-in-Cell w ↦
          let taken = w.in_ok-descend-in-Cell.ensures in
          rw (w.bodies-is, w.steps-is)
          (gathered_more c.loop-k.invariant c.child-child.ensures.tree next record { items_are = taken.items; steps_are = taken.opened })
      | else-meets w ↦
          rw (w.bodies-is, w.steps-is)
          (gathered_more c.loop-k.invariant c.child-child.ensures.tree next (taken_apart _ one next (sym c.meets.ensures ∙ w.if-meets.false)))
    ]

pub returns-in-Nothing-clause-items : goal.returns-in-Nothing-clause-items
returns-in-Nothing-clause-items g t c = (taken_none {first = 0} c.in-Nothing.ensures.tree).items_are

pub returns-in-Nothing-clause-opened : goal.returns-in-Nothing-clause-opened
returns-in-Nothing-clause-opened g t c = (taken_none {start = []} c.in-Nothing.ensures.tree).steps_are

pub returns-in-Ok-clause-items : goal.returns-in-Ok-clause-items
returns-in-Ok-clause-items g t c =
    let met = ltb-true _ _ c.requires.meets in
    (taken_one {first = 0} c.in-Body.ensures.tree (omega arith) (omega arith) c.in-Ok.ensures.items).items_are

pub returns-in-Ok-clause-opened : goal.returns-in-Ok-clause-opened
returns-in-Ok-clause-opened g t c =
    let met = ltb-true _ _ c.requires.meets in
    (taken_one c.in-Body.ensures.tree (omega arith) (omega arith) c.in-Ok.ensures.items).steps_are

pub returns-else-cut-before-2-clause-items : goal.returns-else-cut-before-2-clause-items
returns-else-cut-before-2-clause-items g t c = (taken_before {first = 0} c.in-Body.ensures.tree (omega arith)).items_are

pub returns-else-cut-before-2-clause-opened : goal.returns-else-cut-before-2-clause-opened
returns-else-cut-before-2-clause-opened g t c = (taken_before {start = []} c.in-Body.ensures.tree (omega arith)).steps_are

pub returns-after-loop-k-clause-items : goal.returns-after-loop-k-clause-items
returns-after-loop-k-clause-items g t c = (gathered_all c.loop-k.invariant c.in-Cell.ensures.tree c.requires.meets (omega arith)).items_are

pub returns-after-loop-k-clause-opened : goal.returns-after-loop-k-clause-opened
returns-after-loop-k-clause-opened g t c = (gathered_all c.loop-k.invariant c.in-Cell.ensures.tree c.requires.meets (omega arith)).steps_are

pub returns-after-loop-k-clause-few : goal.returns-after-loop-k-clause-few
returns-after-loop-k-clause-few g t c = omega (arith, (gathered_all c.loop-k.invariant c.in-Cell.ensures.tree c.requires.meets (omega arith)).steps_are)

-- the whole span lies in the range
whole : (g : _) (t : ℕ) (c : After-gather g t)
    → IsWhole (cost_at c.args.cut.now.costs.now) c.args.cut.now.low c.args.cut.now.high c.args.before (tree_under c.args.node)
whole g t c =
    whole_inside _ _ _ _ _ _ (costs_positive _ c.args.cut.now.costs.now c.requires.costs_of_bodies c.requires.costs) c.if-cut-before.true c.requires.after
    c.if-after-cut.true

pub returns-then-after-cut-clause-items : goal.returns-then-after-cut-clause-items
returns-then-after-cut-clause-items g t c = rw (whole g t c).items_are c.gather.ensures.items

pub returns-then-after-cut-clause-opened : goal.returns-then-after-cut-clause-opened
returns-then-after-cut-clause-opened g t c = rw (whole g t c).steps_are c.gather.ensures.opened

pub returns-then-after-cut-clause-few : goal.returns-then-after-cut-clause-few
returns-then-after-cut-clause-few g t c = rw (whole g t c).steps_are c.gather.ensures.few
