use Rattle.std.proofs.Common.{◌+◌, arith, ◌∙◌, sym, ap}
use Rattle.bh_model.specs.Zones.{cost_at}
use Rattle.octree.specs.Spot.{tree_under}
use Rattle.octree.specs.Stored.{tree_of}
use Rattle.costzones.proofs.Descents.{IsTaken, costs_positive, taken_apart}
use Rattle.costzones.proofs.ZoneCuts.{IsCutFor, cut_few, cut_opened, cut_zone}
use Rattle.costzones.proofs.cut.zone.Goals.{After-meets, Joined-meets, then-meets+in_ok-descend, else-meets}
use Rattle.costzones.proofs.cut.zone.Goals as goal

-- the range is that of the zone
cut : (g : _) (c : After-meets g)
    → IsCutFor (cost_at c.args.costs.now) c.args.workers c.args.w c.cost_of-whole.result c.range_start.result c.range_start-2.result
    (tree_under c.whole-root.result) (tree_of c.args.tree.now)
cut g c = record {
  some_worker = omega (arith, c.requires.worker);
  positive = costs_positive (tree_under c.whole-root.result) c.args.costs.now (rw c.whole-root.ensures.tree c.requires.costs_of_bodies) c.requires.costs;
  tall = c.whole-root.ensures.height;
  whole_is = c.cost_of-whole.ensures;
  same = c.whole-root.ensures.tree;
  low_is = c.range_start.ensures;
  high_is = c.range_start-2.ensures;
}

-- what was taken
taken : (g : _) (c : Joined-meets g)
    → IsTaken (cost_at c.args.costs.now) c.range_start.result c.range_start-2.result 0 (tree_under c.whole-root.result) c.new-bodies.result.items
    c.args.steps.now c.if-meets.bodies.items c.if-meets.steps
taken g c =
    let one = costs_positive (tree_under c.whole-root.result) c.args.costs.now (rw c.whole-root.ensures.tree c.requires.costs_of_bodies) c.requires.costs in
    elim c.if-meets.branch [
      | then-meets+in_ok-descend w ↦
          rw (w.bodies-is, w.steps-is) record { items_are = w.in_ok-descend.ensures.items; steps_are = w.in_ok-descend.ensures.opened }
      | else-meets w ↦
          rw (w.bodies-is, w.steps-is)
          (taken_apart c.cost_of-whole.result one (omega (arith, c.cost_of-whole.ensures)) (sym c.meets.ensures ∙ w.if-meets.false))
    ]

pub returns-in_err-descend-clause-steps : goal.returns-in_err-descend-clause-steps
returns-in_err-descend-clause-steps g c = omega (arith, c.descend.ensures.few, cut_few (cut g (goal.at.returns-in_err-descend-clause-steps g c).After-meets))

pub returns-clause-items : goal.returns-clause-items
returns-clause-items g c =
    (taken g c).items_are ∙ rw c.new-bodies.ensures.items (cut_zone (cut g (goal.at.returns-clause-items g c).After-meets))

pub returns-clause-opened : goal.returns-clause-opened
returns-clause-opened g c = (taken g c).steps_are ∙ ap (λ n. c.args.steps.now + n) (cut_opened (cut g (goal.at.returns-clause-opened g c).After-meets))

pub returns-clause-steps : goal.returns-clause-steps
returns-clause-steps g c = omega (arith, (taken g c).steps_are, cut_few (cut g (goal.at.returns-clause-steps g c).After-meets))
