use Rattle.std.proofs.Common.{◌<◌, ◌∙◌, ap, arith, length, subst, sym}
use Rattle.bh_model.specs.Bodies.{IsIn}
use Rattle.bh_model.specs.Trees.{height, order}
use Rattle.octree.proofs.Laws.{child_bodies, child_height, child_octree}
use Rattle.octree.specs.Spot.{IsReachable, Spot, tree_under}
use Rattle.octree.specs.Stored.{Stored}
use Rattle.mass_moments.proofs.Bounds.{moment_listed, products_in_cube}
use Rattle.mass_moments.proofs.Fillings.{body_more, cell_itself, cell_more, child_body, child_reached, filled_cell, filled_start, more_fits}
use Rattle.mass_moments.proofs.Fillings.{nothing_more, part_fits, whole_cell}
use Rattle.mass_moments.specs.Filling.{AreProductsInCube}
use Rattle.bh_model.specs.Zones.{cost_at}
use Rattle.mass_moments.specs.Kept.{matter_of}
use Rattle.mass_moments.proofs.fill.+fill_cell.Goals.{in-Nothing, in-Body, in-Cell}
use Rattle.mass_moments.proofs.fill.+fill_cell.Goals as goal

pub loop-k-init : goal.loop-k-init
loop-k-init t c = record {
  filled = rw c.none-whole.ensures (filled_start _ _ _ _);
  centred = c.requires.centred;
  below_within = omega (arith, c.requires.cells_in _ c.requires.cell.reached, c.number-number.ensures);
}

pub get-body-requires : goal.get-body-requires
get-body-requires t c = c.requires.bodies_in _ (child_body c.requires.cell c.child-child.ensures c.loop-k-test.true c.in-Body.ensures)

pub bounds-costs-n : goal.bounds-costs-n
bounds-costs-n t c =
    let within = c.requires.bodies_in _ (child_body c.requires.cell c.child-child.ensures c.loop-k-test.true c.in-Body.ensures) in
    omega (arith, c.requires.one_cost_each, within)

pub plus-whole-requires : goal.plus-whole-requires
plus-whole-requires t c =
    let within = c.requires.bodies_in _ (child_body c.requires.cell c.child-child.ensures c.loop-k-test.true c.in-Body.ensures) in
    rw (c.of_body.ensures ∙ moment_listed c.args.bodies.now c.args.costs.now _ _ within c.get-body.ensures.value, sym c.in-Body.ensures.tree)
    (more_fits c.requires.cell c.child-child.ensures c.loop-k-test.true c.loop-k.invariant.filled c.requires.fits)

pub fill_cell-requires : goal.fill_cell-requires
fill_cell-requires t c =
    let met = c.in-Cell.ensures in
    let same = ap (λ (s : Spot). s.octree) met.same ∙ child_octree _ _ _ _ c.requires.cell c.child-child.ensures in
    let m = matter_of c.args.bodies.now in
    let cost = cost_at c.args.costs.now in (
      omega (arith, child_height _ _ _ _ c.requires.cell c.child-child.ensures c.loop-k-test.true, ap (λ (s : Spot). height (tree_under s)) met.same),
      (
        cell_itself met,
        (
          c.requires.rule,
          (
            λ n i. c.requires.bodies_in n
                (child_bodies _ _ _ _ n c.requires.cell c.child-child.ensures c.loop-k-test.true
                (subst (λ (s : Spot). IsIn (order (tree_under s)) n) met.same i)),
            (
              c.requires.one_cost_each,
              (
                λ d h. omega (arith, c.requires.cells_in d (subst (λ (o : Stored). IsReachable o d) same h), c.loop-k.auto.list),
                (rw met.same (part_fits m cost c.requires.cell c.child-child.ensures c.loop-k-test.true c.requires.fits), c.loop-k.invariant.centred),
              ),
            ),
          ),
        ),
      ),
    )

pub plus-whole-requires-in-Cell : goal.plus-whole-requires-in-Cell
plus-whole-requires-in-Cell t c =
    rw (c.fill_cell.ensures.value, c.in-Cell.ensures.same)
    (more_fits c.requires.cell c.child-child.ensures c.loop-k-test.true c.loop-k.invariant.filled c.requires.fits)

pub loop-k-preserved : goal.loop-k-preserved
loop-k-preserved t c =
    let is = c.child-child.ensures in
    let small = c.loop-k-test.true in
    let upto = c.loop-k.invariant.filled in
    elim c.match-top.branch [
      | in-Nothing w ↦ rw (w.list-is, w.centres-is, w.whole-is, w.below-is)
          record {
            filled = nothing_more c.requires.cell is small upto w.in-Nothing.ensures;
            centred = c.loop-k.invariant.centred;
            below_within = c.loop-k.invariant.below_within;
          }
      | in-Body w ↦
          let within = c.requires.bodies_in _ (child_body c.requires.cell is small w.in-Body.ensures) in
          rw (w.list-is, w.centres-is, w.whole-is, w.below-is)
          record {
            filled = body_more c.requires.cell is small upto w.in-Body.ensures
                (w.of_body.ensures ∙ moment_listed c.args.bodies.now c.args.costs.now _ _ within w.get-body.ensures.value) w.plus-whole.ensures;
            centred = c.loop-k.invariant.centred;
            below_within = c.loop-k.invariant.below_within;
          }
      | in-Cell w ↦
          rw (w.list-is, w.centres-is, w.whole-is, w.below-is)
          record {
            filled = cell_more c.requires.cell is small upto w.in-Cell.ensures w.fill_cell.ensures.filled w.fill_cell.ensures.value
                w.plus-whole-in-Cell.ensures;
            centred = w.fill_cell.ensures.centred;
            below_within = omega
                (arith, c.requires.cells_in _ (child_reached is w.in-Cell.ensures), w.number-below.ensures, c.loop-k.auto.list, w.fill_cell.auto.list);
          }
    ]

pub put-requires-clause-inside : goal.put-requires-clause-inside
put-requires-clause-inside t c =
    subst AreProductsInCube (sym (whole_cell c.requires.cell (omega arith) c.loop-k.invariant.filled)) (products_in_cube c.args.bodies.now _ _ c.requires.rule)

pub returns-clause-value : goal.returns-clause-value
returns-clause-value t c = whole_cell c.requires.cell (omega arith) c.loop-k.invariant.filled

pub returns-clause-filled : goal.returns-clause-filled
returns-clause-filled t c =
    let within : c.number-number.result.0 < length c.loop-k.list = omega
    (arith, c.requires.cells_in _ c.requires.cell.reached, c.number-number.ensures, c.loop-k.auto.list) in
    rw c.put.ensures.list (filled_cell c.requires.cell (omega arith) c.number-number.ensures within c.loop-k.invariant.filled)
