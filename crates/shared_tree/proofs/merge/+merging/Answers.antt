use Rattle.std.proofs.Common.{arith, rules, ◌∙◌, ◌+◌, ◌*◌, ◌≤◌, ℕ, List, length, drop, ap, refl, sym, subst}
use Rattle.tree_rule.specs.declared.words.TheConstants.{CELLS_OF_ONE}
use Rattle.octree.specs.Spot.{Spot}
use Rattle.tree_passes.specs.Making.{IsReady}
use Rattle.tree_passes.proofs.Laws.{ready_still, still_refl}
use Rattle.shared_tree.specs.Copying.{bodies_under}
use Rattle.shared_tree.specs.Merging.{most_steps, IsPartIn, IsPartMerged}
use Rattle.shared_tree.specs.Seen.{risen}
use Rattle.shared_tree.proofs.MergeParts.{count_all, count_next}
use Rattle.shared_tree.proofs.PartTrees.{cell_itself, no_bodies, part_split}
use Rattle.shared_tree.proofs.PartCopies.{key_fits, rest_from}
use Rattle.shared_tree.proofs.PartPuts.{part_on}
use Rattle.shared_tree.proofs.Merges.{cell_once, changes_fit, child_in, child_room, merged_end, merged_next, merged_start, not_alone, nothing_merged}
use Rattle.shared_tree.proofs.Merges.{ready_merged, rival_found, steps_end, steps_next, still_merged, whole_merged}
use Rattle.shared_tree.proofs.merge.+merging.Goals as goal

pub merge_below-returns-in-Nothing-clause-merged : goal.merge_below-returns-in-Nothing-clause-merged
merge_below-returns-in-Nothing-clause-merged g t c = nothing_merged _ _ _ _ _ _ c.in-Nothing.ensures

pub merge_below-returns-in-Nothing-clause-bodies : goal.merge_below-returns-in-Nothing-clause-bodies
merge_below-returns-in-Nothing-clause-bodies g t c = omega (arith, ap length (no_bodies _ c.in-Nothing.ensures))

pub merge_below-returns-in-Done-clause-merged : goal.merge_below-returns-in-Done-clause-merged
merge_below-returns-in-Done-clause-merged g t c =
    whole_merged _ _ _ _ _ _ _ _ _ _ c.requires.at c.in-Cell.ensures.some.inside c.in-Done.ensures.turn

pub merge_below-returns-in-Done-clause-steps : goal.merge_below-returns-in-Done-clause-steps
merge_below-returns-in-Done-clause-steps g t c = cell_once _ _ _ _ _ c.in-Cell.ensures c.in-Done.ensures.steps

pub merge_below-merge_cell-requires : goal.merge_below-merge_cell-requires
merge_below-merge_cell-requires g t c κs within =
    let r = c.requires in
    let d = c.in-Below.ensures in
    let is = sym c.in-Cell.ensures.same in
    let w = c.visit_part.new.pass.me.0 in (
      omega arith,
      (
        search rules,
        (
          search rules,
          (
            r.writing,
            (
              d.pass.0 ∙ r.place,
              (
                cell_itself _ _ c.in-Cell.ensures,
                (
                  subst (λ (z : Spot). IsPartIn w c.args.table.now.table_id.words c.args.points.now z c.args.key c.args.spot) is
                      (part_on _ _ _ _ _ _ _ d.turn.still d.no_lock r.at),
                  (
                    d.turn.below,
                    (
                      ready_still _ _ _ _ d.turn.still r.ready,
                      subst (λ (z : Spot). CELLS_OF_ONE * length (bodies_under z) ≤ length c.args.spare.now) is r.stock,
                    ),
                  ),
                ),
              ),
            ),
          ),
        ),
      ),
    )

pub merge_below-returns-in-Below-clause-merged : goal.merge_below-returns-in-Below-clause-merged
merge_below-returns-in-Below-clause-merged g t c =
    let m = c.merge_cell.result in
    still_merged _ _ _ _ _ _ _ _ _ _ c.in-Below.ensures.turn.still
    (subst (λ (z : Spot). IsPartMerged c.visit_part.new.pass.me.0 c.merge_cell.new.pass.me.0 c.args.points.now z c.args.spare.now c.args.key
    c.args.spot.level m.used m.changes) c.in-Cell.ensures.same c.merge_cell.ensures.merged)

pub merge_below-returns-in-Below-clause-bodies : goal.merge_below-returns-in-Below-clause-bodies
merge_below-returns-in-Below-clause-bodies g t c =
    c.merge_cell.ensures.bodies ∙ ap (λ (z : Spot). risen 0 (length (bodies_under z))) c.in-Cell.ensures.same

pub merge_below-returns-in-Below-clause-steps : goal.merge_below-returns-in-Below-clause-steps
merge_below-returns-in-Below-clause-steps g t c =
    omega (arith, c.in-Below.ensures.steps, c.merge_cell.ensures.steps, ap (λ (z : Spot). most_steps z c.args.spot.level) c.in-Cell.ensures.same)

pub merge_below-returns-in-Below-clause-alone : goal.merge_below-returns-in-Below-clause-alone
merge_below-returns-in-Below-clause-alone g t c = λ alone.
    let at = c.requires.at in
    let some = c.in-Cell.ensures.some in
    absurd (not_alone _ _ _ _ _
    (rival_found _ _ _ _ _ _ _ some.body at.points c.in-Below.ensures.turn at.todo (at.part.under some.body some.inside)) alone)

pub merge_cell-loop-k-init : goal.merge_cell-loop-k-init
merge_cell-loop-k-init g t c =
    let at = c.requires.at in (
      refl,
      refl,
      omega arith,
      merged_start _ _ _ _ _ _ _ _ _ at.points at.part c.requires.cell (record { still = still_refl _; below = c.requires.below }) at.todo
          (at.no_lock, at.none_under),
      omega arith,
      refl,
    )

pub merge_cell-overflow_mul-key : goal.merge_cell-overflow_mul-key
merge_cell-overflow_mul-key g t c = let f = key_fits _ _ _ _ _ c.requires.at.part c.requires.cell in omega arith

pub merge_cell-overflow_add-key : goal.merge_cell-overflow_add-key
merge_cell-overflow_add-key g t c = let f = key_fits _ _ _ _ _ c.requires.at.part c.requires.cell in omega (arith, c.from.ensures)

pub merge_cell-child_spot-inner-requires : goal.merge_cell-child_spot-inner-requires
merge_cell-child_spot-inner-requires g t c = record { level = (part_split _ _ _ _ _ c.requires.at.part c.requires.cell).low }

pub merge_cell-merge_below-merged-requires : goal.merge_cell-merge_below-merged-requires
merge_cell-merge_below-merged-requires g t c κs within =
    let r = c.requires in
    let i = c.loop-k.invariant in
    let small = c.loop-k-test.true in
    let s = part_split _ _ _ _ _ r.at.part r.cell in
    let next = c.child_spot-inner.ensures in
    let rest = rest_from c.loop-k.used c.args.spare.now in (
      omega (arith, s.low, next.level),
      (
        search rules,
        (
          search rules,
          (
            r.writing,
            (
              i.0 ∙ r.place,
              (
                subst (λ (y : ℕ). IsPartIn c.loop-k.pass.me.0 c.args.table.now.table_id.words c.args.points.now c.child.result (8 * c.args.key + y)
                    c.child_spot-inner.result) (sym c.from.ensures)
                    (child_in _ _ _ _ _ _ _ _ _ _ _ _ _ _ _ r.at r.cell c.child.ensures small i.3 next.word next.lock next.level),
                (
                  subst (λ (z : List ℕ). IsReady c.loop-k.pass.me.0 c.args.table.now.table_id.words z) (sym rest)
                      (ready_merged _ _ _ _ _ _ i.3.merged r.ready),
                  subst (λ (z : List ℕ). CELLS_OF_ONE * length (bodies_under c.child.result) ≤ length z) (sym rest)
                      (child_room _ _ _ _ _ _ _ _ _ _ _ _ _ r.cell c.child.ensures small i.3 r.stock),
                ),
              ),
            ),
          ),
        ),
      ),
    )

pub merge_cell-overflow_add-changes : goal.merge_cell-overflow_add-changes
merge_cell-overflow_add-changes g t c =
    let fit = changes_fit _ _ _ _ _ _ _ _ _ _ _ _ _ _ c.requires.cell c.child.ensures c.loop-k-test.true c.loop-k.invariant.3
    c.merge_below-merged.ensures.merged.most c.requires.stock in
    omega arith

pub merge_cell-loop-k-preserved : goal.merge_cell-loop-k-preserved
merge_cell-loop-k-preserved g t c =
    let i = c.loop-k.invariant in
    let e = c.merge_below-merged.ensures in
    let m = c.merge_below-merged.result in
    let w = c.loop-k.pass.me.0 in
    let u = c.merge_below-merged.new.pass.me.0 in
    let left = drop c.loop-k.used c.args.spare.now in
    let next = c.child_spot-inner in
    let rest = rest_from c.loop-k.used c.args.spare.now in
    let child : IsPartMerged w u c.args.points.now c.child.result left (8 * c.args.key + c.loop-k.k) (c.args.spot.level + 1) m.used m.changes =
    subst (λ (y : ℕ). IsPartMerged w u c.args.points.now c.child.result left (8 * c.args.key + c.loop-k.k) y m.used m.changes) next.ensures.level
    (subst (λ (y : ℕ). IsPartMerged w u c.args.points.now c.child.result left (8 * c.args.key + y) next.result.level m.used m.changes)
    c.from.ensures
    (subst (λ (z : List ℕ). IsPartMerged w u c.args.points.now c.child.result z (8 * c.args.key + c.from.result) next.result.level m.used m.changes)
    rest e.merged)) in
    let all = merged_next _ _ _ _ _ _ _ _ _ _ _ _ _ _ _ _ c.requires.at.part c.requires.cell c.child.ensures c.loop-k-test.true i.3 child e.no_lock in (
      e.pass.0 ∙ i.0,
      e.pass.1 ∙ i.1,
      all.within,
      all,
      steps_next _ _ _ _ _ _ _ (c.loop-k.steps + 3) _ c.requires.cell c.child.ensures next.ensures.level i.4 (omega (arith, e.steps)),
      omega (arith, c.saturating_add-bodies.ensures, e.bodies, i.5, count_next _ _ c.requires.cell _ _ c.child.ensures),
    )

pub merge_cell-returns-clause-no_lock : goal.merge_cell-returns-clause-no_lock
merge_cell-returns-clause-no_lock g t c = (c.loop-k.invariant.3.no_lock, c.loop-k.invariant.3.none_under)

pub merge_cell-returns-clause-merged : goal.merge_cell-returns-clause-merged
merge_cell-returns-clause-merged g t c =
    let s = part_split _ _ _ _ _ c.requires.at.part c.requires.cell in
    merged_end _ _ _ _ _ _ _ _ _ _ _ _ (omega (arith, c.loop-k-test.false)) (omega arith) s.low c.requires.at.part c.requires.cell c.loop-k.invariant.3

pub merge_cell-returns-clause-bodies : goal.merge_cell-returns-clause-bodies
merge_cell-returns-clause-bodies g t c =
    omega (arith, c.loop-k.invariant.5, count_all _ _ c.requires.cell c.loop-k.k (omega (arith, c.loop-k-test.false)) (omega arith))

pub merge_cell-returns-clause-steps : goal.merge_cell-returns-clause-steps
merge_cell-returns-clause-steps g t c =
    let s = part_split _ _ _ _ _ c.requires.at.part c.requires.cell in
    steps_end _ _ _ _ _ _ c.requires.cell (omega (arith, c.loop-k-test.false)) (omega arith) s.low c.loop-k.invariant.4
