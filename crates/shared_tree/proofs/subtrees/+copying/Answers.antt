use Rattle.std.proofs.Common.{arith, ◌+◌, ◌-◌, ◌*◌, ◌≤◌, ◌∙◌, ℕ, List, length, take, drop, get_or, ap, sym, subst, length-drop, refl}
use Rattle.octant_code.specs.declared.limits.TheConstants.{LEVELS}
use Rattle.octant_code.specs.Points.{site_at}
use Rattle.bh_model.specs.Bodies.{IsIn}
use Rattle.tree_rule.specs.Words.{at_of, cell_word}
use Rattle.tree_rule.specs.Flat.{StandsFor}
use Rattle.octree.specs.Spot.{Spot}
use Rattle.tree_passes.specs.Making.{HasWritten, IsReady}
use Rattle.tree_passes.proofs.Laws.{few_between, held_on, ready_first, ready_on}
use Rattle.shared_tree.specs.Copying.{bodies_under, with_other, IsPartAt, IsOtherAt}
use Rattle.shared_tree.proofs.MergeParts.{count_all, count_next}
use Rattle.shared_tree.proofs.PartTrees.{cell_itself, child_part, no_bodies, one_body, part_split}
use Rattle.shared_tree.proofs.PartCopies.{body_stands, cell_room, child_length, child_other, child_whole, few_cells, gathered_all, gathered_more}
use Rattle.shared_tree.proofs.PartCopies.{gathered_none, key_fits, nothing_stands, pair_at, pair_stands, ready_from, rest_from, room_next, times_one}
use Rattle.shared_tree.proofs.subtrees.+copying.Goals.{copy_cell-After-child, copy_cell-After-copy_part-copied, copy_cell-After-write_cell}
use Rattle.shared_tree.proofs.subtrees.+copying.Goals as goal

pub copy_part-part_two-used-requires-clause-room : goal.copy_part-part_two-used-requires-clause-room
copy_part-part_two-used-requires-clause-room t c =
    let few = few_between (site_at c.args.points.now c.in-Some.x) (site_at c.args.points.now c.in-Body.n) c.args.cube.level (LEVELS - c.args.cube.level) in
    omega (arith, few, c.requires.room, times_one (LEVELS - c.args.cube.level) c.in-Body.n _ (one_body _ _ c.in-Body.ensures))

pub copy_part-part_two-used-requires-clause-pair : goal.copy_part-part_two-used-requires-clause-pair
copy_part-part_two-used-requires-clause-pair t c =
    pair_at _ _ c.args.other _ _ _ _ c.requires.rule c.requires.part (one_body _ _ c.in-Body.ensures) (c.requires.other c.in-Some.x c.in-Some.is)

pub copy_part-bounds-spare-0 : goal.copy_part-bounds-spare-0
copy_part-bounds-spare-0 t c =
    let few = few_between (site_at c.args.points.now c.in-Some.x) (site_at c.args.points.now c.in-Body.n) c.args.cube.level (LEVELS - c.args.cube.level) in
    omega (
      arith,
      few,
      c.part_two-used.ensures.some,
      c.part_two-used.ensures.count,
      c.requires.room,
      times_one (LEVELS - c.args.cube.level) c.in-Body.n _ (one_body _ _ c.in-Body.ensures),
    )

pub copy_part-returns-in-Nothing-clause-stands : goal.copy_part-returns-in-Nothing-clause-stands
copy_part-returns-in-Nothing-clause-stands t c =
    nothing_stands _ _ _ _ _ _ c.args.other c.requires.part (no_bodies _ c.in-Nothing.ensures) c.word_of_other.ensures c.requires.other

pub copy_part-returns-in-Nothing-clause-grows : goal.copy_part-returns-in-Nothing-clause-grows
copy_part-returns-in-Nothing-clause-grows t c = λ x e l. absurd (omega (arith, ap length (no_bodies _ c.in-Nothing.ensures)))

pub copy_part-returns-in-Nothing-clause-bodies : goal.copy_part-returns-in-Nothing-clause-bodies
copy_part-returns-in-Nothing-clause-bodies t c = omega (arith, ap length (no_bodies _ c.in-Nothing.ensures))

pub copy_part-returns-in-None-clause-stands : goal.copy_part-returns-in-None-clause-stands
copy_part-returns-in-None-clause-stands t c =
    body_stands _ _ _ _ _ _ _ c.args.other c.requires.part (one_body _ _ c.in-Body.ensures) c.word_of_body.ensures c.in-None.is

pub copy_part-returns-in-None-clause-bodies : goal.copy_part-returns-in-None-clause-bodies
copy_part-returns-in-None-clause-bodies t c = omega (arith, ap length (one_body _ _ c.in-Body.ensures))

pub copy_part-returns-in-Some-clause-within : goal.copy_part-returns-in-Some-clause-within
copy_part-returns-in-Some-clause-within t c =
    let few = few_between (site_at c.args.points.now c.in-Some.x) (site_at c.args.points.now c.in-Body.n) c.args.cube.level (LEVELS - c.args.cube.level) in
    omega (
      arith,
      few,
      c.part_two-used.ensures.count,
      c.requires.room,
      times_one (LEVELS - c.args.cube.level) c.in-Body.n _ (one_body _ _ c.in-Body.ensures),
    )

pub copy_part-returns-in-Some-clause-few : goal.copy_part-returns-in-Some-clause-few
copy_part-returns-in-Some-clause-few t c =
    let few = few_between (site_at c.args.points.now c.in-Some.x) (site_at c.args.points.now c.in-Body.n) c.args.cube.level (LEVELS - c.args.cube.level) in
    omega (arith, few, c.part_two-used.ensures.count, times_one (LEVELS - c.args.cube.level) c.in-Body.n _ (one_body _ _ c.in-Body.ensures))

pub copy_part-returns-in-Some-clause-stands : goal.copy_part-returns-in-Some-clause-stands
copy_part-returns-in-Some-clause-stands t c =
    subst (λ (z : ℕ). StandsFor (site_at c.args.points.now) (at_of c.part_two-used.new.pass.me.0.memory) z c.args.cube.key
    (IsIn (take c.part_two-used.result c.args.spare.now)) (IsIn (with_other c.args.other (bodies_under c.args.part.now)))) (sym c.word_of_cell.ensures)
    (pair_stands _ _ _ _ _ _ _ _ c.args.other (one_body _ _ c.in-Body.ensures) c.in-Some.is c.part_two-used.ensures.stands)

pub copy_part-returns-in-Some-clause-bodies : goal.copy_part-returns-in-Some-clause-bodies
copy_part-returns-in-Some-clause-bodies t c = omega (arith, ap length (one_body _ _ c.in-Body.ensures))

pub copy_part-copy_cell-requires : goal.copy_part-copy_cell-requires
copy_part-copy_cell-requires t c =
    let r = c.requires in
    let is = sym c.in-Cell.ensures.same in (
      omega arith,
      (
        r.place,
        (
          r.ready,
          (
            r.rule,
            (
              cell_itself _ _ c.in-Cell.ensures,
              (
                subst (λ (z : Spot). IsPartAt c.args.points.now z c.args.cube.key c.args.cube.level) is r.part,
                (
                  λ x e. subst (λ (z : Spot). IsOtherAt c.args.points.now z c.args.cube.key c.args.cube.level x) is (r.other x e),
                  subst (λ (z : Spot). (LEVELS - c.args.cube.level) * length (bodies_under z) ≤ length c.args.spare.now) is r.room,
                ),
              ),
            ),
          ),
        ),
      ),
    )

pub copy_cell-bounds-spare-0 : goal.copy_cell-bounds-spare-0
copy_cell-bounds-spare-0 t c =
    let some = cell_room _ _ _ _ _ c.args.spare.now c.requires.part c.requires.cell c.requires.room in
    omega (arith, some)

pub copy_cell-loop-k-init : goal.copy_cell-loop-k-init
copy_cell-loop-k-init t c =
    let r = c.requires in
    let some = cell_room _ _ _ _ _ c.args.spare.now r.part r.cell r.room in
    let inside = (ready_first _ _ _ r.ready some).1 in (
      refl,
      refl,
      some,
      gathered_none _ _ _ _ _ c.args.other _ _ _ r.part r.cell some refl (omega (arith, inside, r.ready.long)),
      refl,
    )

pub copy_cell-overflow_mul-inner : goal.copy_cell-overflow_mul-inner
copy_cell-overflow_mul-inner t c = let f = key_fits _ _ _ _ _ c.requires.part c.requires.cell in omega arith

pub copy_cell-overflow_add-inner : goal.copy_cell-overflow_add-inner
copy_cell-overflow_add-inner t c = let f = key_fits _ _ _ _ _ c.requires.part c.requires.cell in omega (arith, c.from.ensures)

pub copy_cell-other_at-joins-requires-clause-level : goal.copy_cell-other_at-joins-requires-clause-level
copy_cell-other_at-joins-requires-clause-level t c = (part_split _ _ _ _ _ c.requires.part c.requires.cell).low

pub copy_cell-other_at-joins-requires-clause-inside : goal.copy_cell-other_at-joins-requires-clause-inside
copy_cell-other_at-joins-requires-clause-inside t c = λ x e. (c.requires.other x e).x_in

-- the rest has room for the child
room : (t : ℕ) (c : copy_cell-After-child t)
    → c.loop-k.used + (LEVELS - (c.args.cube.level + 1)) * length (bodies_under c.child.result) ≤ length c.args.spare.now
room t c =
    let r = c.requires in
    let s = part_split _ _ _ _ _ r.part r.cell in
    let next = room_next c.args.points.now (bodies_under c.args.cell) c.args.spare.now c.args.cube.level c.loop-k.k c.loop-k.used s.low s.some
    c.loop-k.invariant.3.copied.few r.room in
    omega (arith, next, child_length _ _ _ _ _ _ _ r.part r.cell c.child.ensures c.loop-k-test.true)

pub copy_cell-copy_part-copied-requires : goal.copy_cell-copy_part-copied-requires
copy_cell-copy_part-copied-requires t c =
    let d = (goal.at.copy_cell-copy_part-copied-requires t c).After-child in
    let r = c.requires in
    let i = c.loop-k.invariant in
    let small = c.loop-k-test.true in
    let s = part_split _ _ _ _ _ r.part r.cell in
    let rest = rest_from c.loop-k.used c.args.spare.now in (
      omega (arith, s.low),
      (
        i.0 ∙ r.place,
        (
          subst (λ (z : List ℕ). IsReady c.loop-k.pass.me.0 c.args.table.now.table_id.words z) (sym rest)
              (ready_from _ _ c.loop-k.used _ (ready_on _ _ _ _ _ i.3.wrote r.ready)),
          (
            r.rule,
            (
              subst (λ (y : ℕ). IsPartAt c.args.points.now c.child.result (8 * c.args.cube.key + y) (c.args.cube.level + 1)) (sym c.from.ensures)
                  (child_part _ _ _ _ _ _ _ r.part r.cell c.child.ensures small).0,
              (
                λ x e. subst (λ (y : ℕ). IsOtherAt c.args.points.now c.child.result (8 * c.args.cube.key + y) (c.args.cube.level + 1) x)
                    (sym c.from.ensures)
                    (child_other _ _ _ _ c.args.other _ _ _ _ r.part r.cell c.child.ensures small c.other_at-joins.ensures r.other x e),
                omega (arith, room t d, ap length rest, length-drop c.loop-k.used c.args.spare.now),
              ),
            ),
          ),
        ),
      ),
    )

-- the cells so far and those of the child are within the list
within : (t : ℕ) (c : copy_cell-After-copy_part-copied t)
    → c.loop-k.used + (LEVELS - (c.args.cube.level + 1)) * length (bodies_under c.child.result) ≤ length c.args.spare.now
    → c.loop-k.used + c.copy_part-copied.result.used ≤ length c.args.spare.now
within t c next = omega (arith, next, c.copy_part-copied.ensures.few)

pub copy_cell-loop-k-preserved : goal.copy_cell-loop-k-preserved
copy_cell-loop-k-preserved t c =
    let d = goal.at.copy_cell-loop-k-preserved t c in
    let r = c.requires in
    let i = c.loop-k.invariant in
    let e = c.copy_part-copied.ensures in
    let w = c.loop-k.pass.me.0 in
    let u = c.copy_part-copied.new.pass.me.0 in
    let copied = c.copy_part-copied.result in
    let small = c.loop-k-test.true in
    let some = cell_room _ _ _ _ _ c.args.spare.now r.part r.cell r.room in
    let rest = rest_from c.loop-k.used c.args.spare.now in
    let inside = (ready_first _ _ _ r.ready some).1 in
    let more = with_other c.other_at-joins.result (bodies_under c.child.result) in (
      e.pass.0 ∙ i.0,
      e.pass.1 ∙ i.1,
      within t d.After-copy_part-copied (room t d.After-child),
      gathered_more c.args.points.now _ w u c.args.spare.now c.args.cell c.args.other more c.args.cube.key c.args.cube.level c.loop-k.k c.loop-k.used
          copied.used _ copied.word _
          (child_whole _ _ _ _ c.args.other _ _ _ _ r.part r.cell c.child.ensures small c.other_at-joins.ensures) small some refl
          (omega (arith, inside, e.wrote.long, i.3.wrote.long, r.ready.long)) r.ready.once
          (omega (arith, e.few, child_length _ _ _ _ _ _ _ r.part r.cell c.child.ensures small)) i.3
          (subst (λ (z : List ℕ). HasWritten w u (take copied.used z)) rest e.wrote)
          (subst (λ (y : ℕ). StandsFor (site_at c.args.points.now) (at_of u.memory) copied.word (8 * c.args.cube.key + y)
          (IsIn (take copied.used (drop c.loop-k.used c.args.spare.now))) (IsIn more)) c.from.ensures
          (subst (λ (z : List ℕ). StandsFor (site_at c.args.points.now) (at_of u.memory) copied.word (8 * c.args.cube.key + c.from.result)
          (IsIn (take copied.used z)) (IsIn more)) rest e.stands)),
      omega (arith, c.saturating_add-bodies.ensures, e.bodies, i.4, count_next _ _ r.cell _ _ c.child.ensures),
    )

pub copy_cell-write_cell-requires-clause-inside : goal.copy_cell-write_cell-requires-clause-inside
copy_cell-write_cell-requires-clause-inside t c =
    (ready_first _ _ _ c.requires.ready (cell_room _ _ _ _ _ c.args.spare.now c.requires.part c.requires.cell c.requires.room)).1

pub copy_cell-write_cell-requires-clause-held : goal.copy_cell-write_cell-requires-clause-held
copy_cell-write_cell-requires-clause-held t c =
    held_on _ _ _ _ c.loop-k.invariant.3.wrote
    (ready_first _ _ _ c.requires.ready (cell_room _ _ _ _ _ c.args.spare.now c.requires.part c.requires.cell c.requires.room)).0

-- the copy is whole when the cell is written
whole : (t : ℕ) (c : copy_cell-After-write_cell t) → HasWritten c.args.pass.now.me.0 c.write_cell.new.pass.me.0 (take c.loop-k.used c.args.spare.now)
    × StandsFor (site_at c.args.points.now) (at_of c.write_cell.new.pass.me.0.memory) (cell_word (get_or c.args.spare.now 0 0)) c.args.cube.key
    (IsIn (take c.loop-k.used c.args.spare.now)) (IsIn (with_other c.args.other (bodies_under c.args.cell)))
whole t c =
    gathered_all _ _ c.loop-k.pass.me.0 _ _ _ c.args.other _ _ c.loop-k.k _ _ _ (omega (arith, c.loop-k-test.false))
    (cell_room _ _ _ _ _ c.args.spare.now c.requires.part c.requires.cell c.requires.room) refl c.loop-k.invariant.3 c.write_cell.ensures.wrote
    c.write_cell.ensures.words

pub copy_cell-returns-clause-wrote : goal.copy_cell-returns-clause-wrote
copy_cell-returns-clause-wrote t c = (whole t (goal.at.copy_cell-returns-clause-wrote t c).After-write_cell).0

pub copy_cell-returns-clause-few : goal.copy_cell-returns-clause-few
copy_cell-returns-clause-few t c =
    let s = part_split _ _ _ _ _ c.requires.part c.requires.cell in
    omega (arith, c.loop-k.invariant.3.copied.few, few_cells c.args.points.now (bodies_under c.args.cell) c.args.cube.level c.loop-k.k s.low s.some)

pub copy_cell-returns-clause-stands : goal.copy_cell-returns-clause-stands
copy_cell-returns-clause-stands t c =
    subst (λ (z : ℕ). StandsFor (site_at c.args.points.now) (at_of c.write_cell.new.pass.me.0.memory) z c.args.cube.key
    (IsIn (take c.loop-k.used c.args.spare.now)) (IsIn (with_other c.args.other (bodies_under c.args.cell)))) (sym c.word_of_cell.ensures)
    (whole t (goal.at.copy_cell-returns-clause-stands t c).After-write_cell).1

pub copy_cell-returns-clause-bodies : goal.copy_cell-returns-clause-bodies
copy_cell-returns-clause-bodies t c =
    omega (arith, c.loop-k.invariant.4, count_all _ _ c.requires.cell c.loop-k.k (omega (arith, c.loop-k-test.false)) (omega arith))
