use Rattle.std.proofs.Common.{arith, rules, ◌≡◌, ◌∙◌, ◌+◌, ◌*◌, ℕ, ap, sym, subst}
use Rattle.octant_code.specs.Points.{site_at}
use Rattle.octant_code.specs.Space.{octant_of}
use Rattle.octree.proofs.Laws.{top_body_inside}
use Rattle.tree_passes.proofs.Laws.{ready_still}
use Rattle.shared_tree.specs.Merging.{IsPartIn}
use Rattle.shared_tree.proofs.Merges.{alone_body, body_deeper, body_fits, body_low, body_once, deeper_in, deeper_merged, some_length, whole_merged}
use Rattle.shared_tree.proofs.merge.+merge_body.Goals as goal

pub visit_part-requires-clause-some : goal.visit_part-requires-clause-some
visit_part-requires-clause-some g t c = some_length _ _ (top_body_inside _ _ c.requires.body)

pub at-requires : goal.at-requires
at-requires g t c = c.requires.at.part.bodies_in _ (top_body_inside _ _ c.requires.body)

pub octant-k-requires : goal.octant-k-requires
octant-k-requires g t c = body_low _ _ _ _ _ _ _ _ _ c.requires.at c.requires.body c.in-Below.ensures.turn

pub child_spot-inner-requires : goal.child_spot-inner-requires
child_spot-inner-requires g t c = record { level = body_low _ _ _ _ _ _ _ _ _ c.requires.at c.requires.body c.in-Below.ensures.turn }

pub overflow_mul-key_below : goal.overflow_mul-key_below
overflow_mul-key_below g t c =
    let low = body_low _ _ _ _ _ _ _ _ _ c.requires.at c.requires.body c.in-Below.ensures.turn in
    let f = body_fits _ _ _ _ _ _ _ c.requires.at c.requires.body low in
    omega arith

pub overflow_add-key_below : goal.overflow_add-key_below
overflow_add-key_below g t c =
    let low = body_low _ _ _ _ _ _ _ _ _ c.requires.at c.requires.body c.in-Below.ensures.turn in
    let f = body_fits _ _ _ _ _ _ _ c.requires.at c.requires.body low in
    omega (arith, c.from.ensures, c.octant-k.ensures.small)

pub merge_body-requires : goal.merge_body-requires
merge_body-requires g t c κs within =
    let d = c.in-Below.ensures in
    let low = body_low _ _ _ _ _ _ _ _ _ c.requires.at c.requires.body d.turn in
    let next = c.child_spot-inner.ensures in
    let octant : c.octant-k.result ≡ octant_of (site_at c.args.points.now c.args.n) c.args.spot.level =
    c.octant-k.ensures.value ∙ ap (λ s. octant_of s c.args.spot.level) c.at.ensures.value in (
      omega (arith, low, next.level),
      (
        search rules,
        (
          search rules,
          (
            c.requires.writing,
            (
              d.pass.0 ∙ c.requires.place,
              (
                c.requires.body,
                (
                  subst (λ (y : ℕ). IsPartIn c.visit_part.new.pass.me.0 c.args.table.now.table_id.words c.args.points.now c.args.part.now
                      (8 * c.args.key + y) c.child_spot-inner.result) (sym c.from.ensures)
                      (deeper_in _ _ _ _ _ _ _ _ _ _ _ c.requires.at c.requires.body d.turn d.no_lock octant c.octant-k.ensures.small next.word next.lock
                      next.level),
                  (ready_still _ _ _ _ d.turn.still c.requires.ready, c.requires.stock),
                ),
              ),
            ),
          ),
        ),
      ),
    )

pub returns-in-Done-clause-merged : goal.returns-in-Done-clause-merged
returns-in-Done-clause-merged g t c =
    whole_merged _ _ _ _ _ _ _ _ _ _ c.requires.at (top_body_inside _ _ c.requires.body) c.in-Done.ensures.turn

pub returns-in-Done-clause-steps : goal.returns-in-Done-clause-steps
returns-in-Done-clause-steps g t c = body_once _ _ _ _ _ c.requires.body c.requires.at.part.low c.in-Done.ensures.steps

pub returns-in-Below-clause-merged : goal.returns-in-Below-clause-merged
returns-in-Below-clause-merged g t c =
    deeper_merged _ _ _ _ _ _ _ _ _ _ _ _ _ _ _ c.requires.at c.requires.body c.in-Below.ensures.turn c.merge_body.ensures.merged

pub returns-in-Below-clause-steps : goal.returns-in-Below-clause-steps
returns-in-Below-clause-steps g t c =
    body_deeper _ _ _ _ _ _ _ c.requires.body (body_low _ _ _ _ _ _ _ _ _ c.requires.at c.requires.body c.in-Below.ensures.turn)
    c.child_spot-inner.ensures.level c.in-Below.ensures.steps c.merge_body.ensures.steps

pub returns-in-Below-clause-alone : goal.returns-in-Below-clause-alone
returns-in-Below-clause-alone g t c = λ alone. absurd (alone_body _ _ _ _ _ _ _ _ _ c.requires.at c.requires.body c.in-Below.ensures.turn alone)
