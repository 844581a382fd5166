use Rattle.std.proofs.Common.{arith, false, ◌≡◌, ◌≢◌, ◌+◌, ◌-◌, ◌<◌, ℕ, length, sym, subst, ◌∙◌, ap, get_or}
use Rattle.octant_code.specs.Points.{site_at}
use Rattle.bh_model.proofs.Moments.{child_fits, upto_fits, upto_more, upto_none}
use Rattle.bh_model.specs.Moments.{FitsWords, Matter, add_moment, matter_by, moment}
use Rattle.bh_model.specs.Trees.{cell_of, in_octant, octree_from}
use Rattle.bh_plain.proofs.ListMoments.{moment_of_empty, moment_of_single, moment_of_split, octants_more, octants_upto}
use Rattle.bh_model.proofs.Splits.{empty_or_deep, list_has_some, octant_trees, octants_within, split_tree}
use Rattle.bh_plain.proofs.moments.+moment_of_part.Goals as goal
use Rattle.bh_plain.proofs.moments.+moment_of_part.Goals.{After-is_empty, In_ok-more}

pub returns-then-bodies-eq1 : goal.returns-then-bodies-eq1
returns-then-bodies-eq1 t c =
    c.moment_of_body.ensures
    ∙ sym (moment_of_single (matter_by c.args.masses.now c.args.points.now) (λ n. get_or c.args.costs.now n 0) (21 - c.args.level) c.args.level
    c.args.bodies.now c.if-bodies-eq1.true)

pub returns-then-is_empty : goal.returns-then-is_empty
returns-then-is_empty t c =
    let why = empty_or_deep _ c.args.level c.is_empty.result c.is_empty.ensures c.then-is_empty.either in
    c.none-sum.ensures
    ∙ sym (moment_of_empty (matter_by c.args.masses.now c.args.points.now) (λ n. get_or c.args.costs.now n 0) c.args.level c.args.bodies.now
    c.if-bodies-eq1.false why)

pub loop-k-init : goal.loop-k-init
loop-k-init t c =
    c.none-sum.ensures ∙ upto_none (matter_by c.args.masses.now c.args.points.now) (λ n. get_or c.args.costs.now n 0)
    (octant_trees (site_at c.args.points.now) c.args.level c.args.bodies.now)

-- where there are two bodies or more, the moment of the octants fits
octants_fit : (t : ℕ) (c : After-is_empty t) → c.is_empty.result ≡ false → c.args.level < 21 → length c.args.bodies.now ≢ 1
    → FitsWords (moment (matter_by c.args.masses.now c.args.points.now) (λ n. get_or c.args.costs.now n 0)
    (cell_of (octant_trees (site_at c.args.points.now) c.args.level c.args.bodies.now)))
octants_fit t c test deep many =
    subst FitsWords (ap (moment (matter_by c.args.masses.now c.args.points.now) (λ n. get_or c.args.costs.now n 0))
    (split_tree (site_at c.args.points.now) c.args.level c.args.bodies.now deep
    (list_has_some (length c.args.bodies.now) c.is_empty.result c.is_empty.ensures test) many)) c.requires.fits

pub moment_of_part-requires : goal.moment_of_part-requires
moment_of_part-requires t c =
    let m : Matter = matter_by c.args.masses.now c.args.points.now in
    let cost : ℕ → ℕ = λ n. get_or c.args.costs.now n 0 in
    let level : ℕ = c.args.level in
    let part : c.deref.result.now ≡ in_octant (site_at c.args.points.now) level c.loop-k.k c.args.bodies.now = c.deref.ensures.value ∙ c.in_ok-part.ensures in
    let whole = octants_fit t (goal.at.moment_of_part-requires t c).After-is_empty c.if-is_empty.false (omega arith) c.if-bodies-eq1.false in (
      omega arith,
      (
        octants_within c.args.points.now level c.loop-k.k c.args.bodies.now c.deref.result.now (length c.args.points.now) part c.requires.within,
        (
          octants_within c.args.points.now level c.loop-k.k c.args.bodies.now c.deref.result.now (length c.args.masses.now) part c.requires.weighed,
          (
            octants_within c.args.points.now level c.loop-k.k c.args.bodies.now c.deref.result.now (length c.args.costs.now) part c.requires.costed,
            (
              omega arith,
              subst (λ y. FitsWords (moment m cost (octree_from m.site (21 - (level + 1)) (level + 1) y))) (sym part)
                  (child_fits m cost (octant_trees m.site level c.args.bodies.now) c.loop-k.k (omega arith) whole),
            ),
          ),
        ),
      ),
    )

-- the sum so far and the next octant's moment
next_sum : (t : ℕ) (c : In_ok-more t)
    → add_moment c.loop-k.sum c.in_ok-more.more
    ≡ octants_upto (matter_by c.args.masses.now c.args.points.now) (λ n. get_or c.args.costs.now n 0) c.args.level c.args.bodies.now (c.loop-k.k + 1)
next_sum t c =
    let m : Matter = matter_by c.args.masses.now c.args.points.now in
    let cost : ℕ → ℕ = λ n. get_or c.args.costs.now n 0 in
    let level : ℕ = c.args.level in
    let part : c.deref.result.now ≡ in_octant (site_at c.args.points.now) level c.loop-k.k c.args.bodies.now = c.deref.ensures.value ∙ c.in_ok-part.ensures in
    octants_more m cost level c.args.bodies.now c.loop-k.k c.loop-k.sum c.in_ok-more.more c.loop-k.invariant
    (c.in_ok-more.ensures ∙ ap (λ y. moment m cost (octree_from m.site (21 - (level + 1)) (level + 1) y)) part)

pub plus-sum-requires : goal.plus-sum-requires
plus-sum-requires t c =
    let m : Matter = matter_by c.args.masses.now c.args.points.now in
    let cost : ℕ → ℕ = λ n. get_or c.args.costs.now n 0 in
    let at = goal.at.plus-sum-requires t c in
    let trees = octant_trees m.site c.args.level c.args.bodies.now in
    subst FitsWords (upto_more m cost trees c.loop-k.k ∙ sym (next_sum t at.In_ok-more))
    (upto_fits m cost trees c.loop-k.k (omega arith) (octants_fit t at.After-is_empty c.if-is_empty.false (omega arith) c.if-bodies-eq1.false))

pub loop-k-preserved : goal.loop-k-preserved
loop-k-preserved t c = c.plus-sum.ensures ∙ next_sum t (goal.at.loop-k-preserved t c).In_ok-more

pub returns : goal.returns
returns t c =
    let m : Matter = matter_by c.args.masses.now c.args.points.now in
    let cost : ℕ → ℕ = λ n. get_or c.args.costs.now n 0 in
    let all : c.loop-k.k ≡ 8 = omega arith in
    let some : length c.args.bodies.now ≢ 0 = list_has_some (length c.args.bodies.now) c.is_empty.result c.is_empty.ensures c.if-is_empty.false in
    let deep : c.args.level < 21 = omega arith in
    c.loop-k.invariant ∙ ap (octants_upto m cost c.args.level c.args.bodies.now) all
    ∙ sym (moment_of_split m cost c.args.level c.args.bodies.now deep some c.if-bodies-eq1.false)
