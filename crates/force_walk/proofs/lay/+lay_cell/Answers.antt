use Rattle.std.proofs.Common.{◌-◌, ◌++◌, ◌∙◌, ap, arith, length, refl, subst}
use Rattle.bh_model.proofs.Splits.{on_ok_map}
use Rattle.force_walk.specs.Parts.{IsLaidTree}
use Rattle.bh_model.specs.Trees.{height}
use Rattle.mass_moments.specs.Kept.{matter_of}
use Rattle.octree.proofs.Laws.{child_height, child_octree}
use Rattle.octree.specs.Spot.{Spot, tree_under}
use Rattle.mass_moments.proofs.Fillings.{cell_itself}
use Rattle.force_walk.proofs.Cubes.{cube_body, cube_child, cube_deep, cube_few, cube_massive}
use Rattle.force_walk.proofs.Layings.{IsAdded, added_cell, added_child, added_none, added_one, added_own, added_size, kept_mass}
use Rattle.force_walk.specs.declared.node.Laid.{Laid}
use Rattle.force_walk.proofs.lay.+lay_cell.Goals.{in-Nothing, in-Body+in_ok-push-in-Body, in-Cell+in_ok-lay_cell-in-Cell}
use Rattle.force_walk.proofs.lay.+lay_cell.Goals as goal

pub node_of_cell-node-requires-clause-massive : goal.node_of_cell-node-requires-clause-massive
node_of_cell-node-requires-clause-massive t c =
    omega (
      arith,
      kept_mass (matter_of c.args.bodies.now) c.args.moments.now c.number.result.0 c.requires.cell c.requires.moments c.number.ensures,
      cube_massive c.requires.cell c.requires.cube,
    )

pub loop-k-init : goal.loop-k-init
loop-k-init t c =
    added_own (matter_of c.args.bodies.now) c.args.moments.now c.args.least.now c.args.down c.number.result.0 c.requires.cell c.requires.moments
    c.number.ensures c.node_of_cell-node.ensures c.in_ok-push.ensures

pub node_of_body-requires : goal.node_of_body-requires
node_of_body-requires t c = cube_body c.in-Body.ensures (cube_child c.requires.cell c.requires.cube c.child.ensures c.loop-k-test.true)

pub overflow_sub-down : goal.overflow_sub-down
overflow_sub-down t c = omega (arith, cube_deep c.requires.cell c.requires.cube)

pub lay_cell-requires : goal.lay_cell-requires
lay_cell-requires t c =
    let less = child_height _ _ _ _ c.requires.cell c.child.ensures c.loop-k-test.true in
    let same = c.in-Cell.ensures.same in
    let stored = child_octree _ _ _ _ c.requires.cell c.child.ensures in (
      omega (arith, less, ap (λ (s : Spot). height (tree_under s)) same),
      (
        cell_itself c.in-Cell.ensures,
        (
          rw same (cube_child c.requires.cell c.requires.cube c.child.ensures c.loop-k-test.true),
          (rw (same, stored) c.requires.moments, rw (same, stored) c.requires.parts),
        ),
      ),
    )

pub loop-k-preserved : goal.loop-k-preserved
loop-k-preserved t c =
    let m = matter_of c.args.bodies.now in
    let least = c.args.least.now in
    let down = c.args.down in
    let more : (next : Laid) → IsAdded m least (down - 1) (tree_under c.child.result) c.loop-k.laid next → _ =
    λ next added. added_child m least down c.child.ensures c.loop-k.invariant added in
    elim c.match-top.branch [
      | in-Nothing w ↦ rw w.laid-is (more _ (added_none m least (down - 1) c.loop-k.laid w.in-Nothing.ensures))
      | in-Body+in_ok-push-in-Body w ↦
          rw w.laid-is
          (more _ (added_one m least (down - 1) w.in-Body.ensures w.node_of_body.ensures (omega arith) w.in_ok-push-in-Body.ensures))
      | in-Cell+in_ok-lay_cell-in-Cell w ↦
          rw w.laid-is
          (more _
          (subst (λ (s : Spot). IsAdded m least (down - 1) (tree_under s) c.loop-k.laid w.lay_cell.new.laid) w.in-Cell.ensures.same
          w.in_ok-lay_cell-in-Cell.ensures))
    ]

pub close-requires-clause-few : goal.close-requires-clause-few
close-requires-clause-few t c =
    let ok = c.args.laid.now.nodes.ok.0 in
    omega (
      arith,
      added_size (matter_of c.args.bodies.now) c.args.least.now c.args.down c.loop-k.k c.requires.cell c.loop-k.invariant (omega arith),
      cube_few c.args.least.now c.requires.cube,
      c.len-own.ensures,
    )

pub returns : goal.returns
returns t c =
    let ok = c.args.laid.now.nodes.ok.0 in
    added_cell (matter_of c.args.bodies.now) c.args.least.now c.args.down c.loop-k.k c.requires.cell c.loop-k.invariant (omega arith) c.len-own.result _
    (omega (arith, c.len-own.ensures)) c.close.ensures refl

pub returns-in-Some : goal.returns-in-Some
returns-in-Some t c =
    let laid : IsLaidTree (matter_of c.args.bodies.now) c.args.least.now c.args.down (tree_under c.args.cell.now) c.in-Ok.done =
    rw c.in-Ok.is at c.in-Some.ensures (matter_of c.args.bodies.now) (length c.args.bodies.now) c.args.least.now c.requires.parts in
    on_ok_map c.append.result _ _
    (λ added. record {
      nodes_are = added.nodes_are ∙ ap (λ l. c.args.laid.now.nodes.items ++ l) laid.nodes_are;
      owners_are = added.owners_are ∙ ap (λ l. c.args.laid.now.owners.items ++ l) laid.owners_are;
    }) c.append.ensures
