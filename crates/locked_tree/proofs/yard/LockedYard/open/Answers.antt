use Rattle.std.proofs.Common.{length, subst, arith}
use Rattle.std.specs.Arc.{arc_value}
use Rattle.octant_code.specs.Points.{ArePoints}
use Rattle.tree_rule.proofs.Laws.{few_below}
use Rattle.octree.specs.Stored.{IsStored}
use Rattle.shared_tree.proofs.Laws.{room_of_regions}
use Rattle.locked_tree.proofs.Dealt.{dealt_enough, serves}
use Rattle.locked_tree.proofs.yard.LockedYard.open.Goals as goal

pub deal_out-requires-clause-few : goal.deal_out-requires-clause-few
deal_out-requires-clause-few c =
    let points = subst ArePoints c.deref.ensures c.len.ensures.rule in
    omega (arith, few_below (length (arc_value c.args.points.now)) c.args.todo.now c.requires.todo_once c.requires.todo_in, points.few)

pub deal_out-requires-clause-regions : goal.deal_out-requires-clause-regions
deal_out-requires-clause-regions c =
    let r = c.requires in
    room_of_regions (arc_value c.args.points.now) c.args.start c.args.todo.now (subst ArePoints c.deref.ensures c.len.ensures.rule)
    (subst IsStored c.start.view_is c.start.invariant.0) r.base r.canonical r.todo_once r.todo_in r.todo_fresh

pub open-requires-clause-deal : goal.open-requires-clause-deal
open-requires-clause-deal c =
    let r = c.requires in
    let rule = subst IsStored c.start.view_is c.start.invariant.0 in
    let points = subst ArePoints c.deref.ensures c.len.ensures.rule in
    serves c.args.pool c.args.start (length c.args.todo.now) _ _ _ _ rule r.room
    (room_of_regions (arc_value c.args.points.now) c.args.start c.args.todo.now points rule r.base r.canonical r.todo_once r.todo_in r.todo_fresh)
    c.in_ok-deal.ensures

pub open-requires-clause-enough : goal.open-requires-clause-enough
open-requires-clause-enough c =
    let d = c.in_ok-deal.deal in
    dealt_enough c.args.pool c.args.start (length c.args.todo.now) d.region.items d.cells d.pool d.quota c.in_ok-deal.ensures
