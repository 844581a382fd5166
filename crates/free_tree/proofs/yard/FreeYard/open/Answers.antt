use Rattle.std.proofs.Common.{◌≤◌, ◌+◌, ◌*◌, length, subst, arith}
use Rattle.std.specs.Arc.{arc_value}
use Rattle.octant_code.specs.Points.{ArePoints}
use Rattle.tree_rule.proofs.Laws.{few_below}
use Rattle.bh_model.specs.Trees.{cell_count}
use Rattle.octree.specs.Stored.{IsStored, tree_of}
use Rattle.tree_rule.specs.declared.words.TheConstants.{CELLS_OF_ONE, MOST_CELLS}
use Rattle.shared_tree.proofs.Laws.{region_enough, room_of_regions, serves_region}
use Rattle.free_tree.proofs.yard.FreeYard.open.Goals.{After-len-rule}
use Rattle.free_tree.proofs.yard.FreeYard.open.Goals as goal

pub deal_region-requires-clause-few : goal.deal_region-requires-clause-few
deal_region-requires-clause-few c =
    let points = subst ArePoints c.deref.ensures c.len-rule.ensures.rule in
    omega (arith, few_below (length (arc_value c.args.points.now)) c.args.todo.now c.requires.todo_once c.requires.todo_in, points.few)

-- the start's cells, and 21 for each body
room : (c : After-len-rule) → IsStored c.args.start → cell_count (tree_of c.args.start) + CELLS_OF_ONE * length c.args.todo.now ≤ MOST_CELLS
room c rule =
    let r = c.requires in
    room_of_regions (arc_value c.args.points.now) c.args.start c.args.todo.now (subst ArePoints c.deref.ensures c.len-rule.ensures.rule) rule r.base
    r.canonical r.todo_once r.todo_in r.todo_fresh

pub deal_region-requires-clause-room : goal.deal_region-requires-clause-room
deal_region-requires-clause-room c =
    room (goal.at.deal_region-requires-clause-room c).After-len-rule (subst IsStored c.start.view_is c.start.invariant.0)

pub open-requires-clause-deal : goal.open-requires-clause-deal
open-requires-clause-deal c =
    let e = c.in_ok-deal.ensures in
    let rule = subst IsStored c.start.view_is c.start.invariant.0 in
    serves_region c.args.start (CELLS_OF_ONE * length c.args.todo.now) _ _ _ _ rule (room (goal.at.open-requires-clause-deal c).After-len-rule rule)
    e.handed e.pool.0 e.pool.1

pub open-requires-clause-enough : goal.open-requires-clause-enough
open-requires-clause-enough c = omega (arith, region_enough c.args.start _ _ _ c.in_ok-deal.ensures.handed)
