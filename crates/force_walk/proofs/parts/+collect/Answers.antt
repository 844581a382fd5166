use Rattle.std.proofs.Common.{◌∙◌, [], All, ap, arith, length, refl, subst}
use Rattle.std.proofs.lemmas.List.Elements.{All-append, All-cons, All-nil}
use Rattle.bh_model.specs.Trees.{height}
use Rattle.mass_moments.specs.Kept.{matter_of}
use Rattle.mass_moments.proofs.Fillings.{cell_itself}
use Rattle.octree.proofs.Laws.{child_height, child_octree}
use Rattle.octree.specs.Spot.{Spot, tree_under}
use Rattle.octree.specs.Stored.{Stored}
use Rattle.force_walk.specs.Parts.{IsPart}
use Rattle.force_walk.specs.declared.parts.Part.{Part}
use Rattle.force_walk.proofs.Cubes.{cube_child, cube_deep}
use Rattle.force_walk.proofs.parts.+collect.Goals.{in-Cell+in_ok-collect, in_default}
use Rattle.force_walk.proofs.parts.+collect.Goals as goal

pub returns-then-of-most_cost : goal.returns-then-of-most_cost
returns-then-of-most_cost t c =
    let P : Part → Type 0 = IsPart (matter_of c.args.bodies.now) (length c.args.bodies.now) c.args.least.now c.args.cell.octree in
    rw c.in_ok-push.ensures.items
    (All-append P _ _ c.requires.parts
    (All-cons P _ [] (record { cell = c.requires.cell; octree_is = refl; cube = c.requires.cube; laid_is = tt }) (All-nil P)))

pub overflow_sub-down : goal.overflow_sub-down
overflow_sub-down t c = omega (arith, cube_deep c.requires.cell c.requires.cube)

pub collect-requires : goal.collect-requires
collect-requires t c =
    let less = child_height _ _ _ _ c.requires.cell c.child.ensures c.loop-k-test.true in
    let same = c.in-Cell.ensures.same in
    let stored = child_octree _ _ _ _ c.requires.cell c.child.ensures in (
      omega (arith, less, ap (λ (s : Spot). height (tree_under s)) same),
      (
        cell_itself c.in-Cell.ensures,
        (
          rw same (cube_child c.requires.cell c.requires.cube c.child.ensures c.loop-k-test.true),
          (rw (same, stored) c.requires.moments, rw (same, stored) c.loop-k.invariant),
        ),
      ),
    )

pub loop-k-preserved : goal.loop-k-preserved
loop-k-preserved t c =
    elim c.match-top.branch [
      | in-Cell+in_ok-collect w ↦
          let same = ap (λ (s : Spot). s.octree) w.in-Cell.ensures.same ∙ child_octree _ _ _ _ c.requires.cell c.child.ensures in
          rw w.parts-is
          (subst (λ (o : Stored). All (IsPart (matter_of c.args.bodies.now) (length c.args.bodies.now) c.args.least.now o) w.collect.new.parts.items) same
          w.in_ok-collect.ensures)
      | in_default w ↦ rw w.parts-is c.loop-k.invariant
    ]
