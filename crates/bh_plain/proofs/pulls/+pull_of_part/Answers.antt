use Rattle.std.proofs.Common.{arith, ◌≡◌, ◌≢◌, ◌+◌, ◌-◌, ◌*◌, ◌^◌, ◌<◌, ℕ, true, false, length, sym, subst, refl, ◌∙◌, ap}
use Rattle.octant_code.specs.Points.{site_at}
use Rattle.octant_code.specs.Space.{IsInCube}
use Rattle.bh_model.specs.Moments.{Matter, centre, centre_of, mass_of, matter_by}
use Rattle.bh_plain.specs.Parts.{IsPart}
use Rattle.bh_model.specs.Pulls.{IsSmall, pull_from}
use Rattle.bh_model.specs.Trees.{in_octant, octree_from}
use Rattle.bh_model.specs.declared.moment.Moment.{Moment}
use Rattle.bh_model.specs.declared.pull.Pull.{Pull}
use Rattle.bh_plain.proofs.ListMoments.{total_within}
use Rattle.bh_model.proofs.PullSums.{pull_step, pull_upto}
use Rattle.bh_plain.proofs.ListPulls.{apart_same, centre_inside, widened, front_small, octant_pulls, one_small, part_child, part_key, part_moment, part_tree}
use Rattle.bh_plain.proofs.ListPulls.{pull_of_empty, pull_of_single, pull_of_split, pull_of_whole, term_same, whole_told}
use Rattle.bh_model.proofs.PullBounds.{whole_apart}
use Rattle.bh_model.proofs.Splits.{empty_or_deep, list_has_some}
use Rattle.bh_plain.proofs.pulls.+pull_of_part.Goals as goal
use Rattle.bh_plain.proofs.pulls.+pull_of_part.Goals.{In_ok-more}

pub returns-then-bodies-eq1 : goal.returns-then-bodies-eq1
returns-then-bodies-eq1 t c =
    c.pull_of_body.ensures
    ∙ sym (pull_of_single c.args.law.now (matter_by c.args.masses.now c.args.points.now) c.args.n c.args.level c.args.key c.args.bodies.now
    c.if-bodies-eq1.true)

pub returns-then-is_empty : goal.returns-then-is_empty
returns-then-is_empty t c =
    let why = empty_or_deep _ c.args.level c.is_empty.result c.is_empty.ensures c.then-is_empty.either in
    c.none-sum.ensures
    ∙ sym (pull_of_empty c.args.law.now (matter_by c.args.masses.now c.args.points.now) c.args.n c.args.level c.args.key c.args.bodies.now
    c.if-bodies-eq1.false why)

pub moment_of_part-requires-clause-fits : goal.moment_of_part-requires-clause-fits
moment_of_part-requires-clause-fits t c = part_moment c.args.points.now c.args.masses.now c.args.level c.args.key c.args.bodies.now c.requires.part

pub centre-to-requires : goal.centre-to-requires
centre-to-requires t c =
    let P : Moment → Type 0 = λ y. IsInCube (centre_of y) in
    subst P (sym c.in_ok-cell.ensures) (centre_inside c.args.points.now c.args.masses.now c.args.level c.args.key c.args.bodies.now c.requires.part)

pub plain_term-requires-clause-light : goal.plain_term-requires-clause-light
plain_term-requires-clause-light t c =
    let m : Matter = matter_by c.args.masses.now c.args.points.now in
    let mass : c.in_ok-cell.cell.mass ≡ mass_of m (part_tree m c.args.level c.args.bodies.now) = ap (λ (y : Moment). y.mass) c.in_ok-cell.ensures in
    omega (arith, mass, total_within m.mass m.site (21 - c.args.level) c.args.level c.args.bodies.now, c.requires.part.light)

pub plain_term-requires-clause-apart : goal.plain_term-requires-clause-apart
plain_term-requires-clause-apart t c =
    apart_same c.at-from.result c.centre-to.result c.at-from.result c.centre-to.result _ refl refl
    (whole_apart c.args.law.now (21 - c.args.level) c.args.key c.at-from.result c.centre-to.result (sym c.is_whole.ensures ∙ c.if-is_whole.true))

pub returns-then-is_whole : goal.returns-then-is_whole
returns-then-is_whole t c =
    let m : Matter = matter_by c.args.masses.now c.args.points.now in
    let some : length c.args.bodies.now ≢ 0 = list_has_some (length c.args.bodies.now) c.is_empty.result c.is_empty.ensures c.if-is_empty.false in
    let deep : c.args.level < 21 = omega arith in
    let to : c.centre-to.result ≡ centre m (part_tree m c.args.level c.args.bodies.now) = c.centre-to.ensures
    ∙ ap (λ (y : Moment). centre_of y) c.in_ok-cell.ensures in
    let mass : c.in_ok-cell.cell.mass ≡ mass_of m (part_tree m c.args.level c.args.bodies.now) = ap (λ (y : Moment). y.mass) c.in_ok-cell.ensures in
    c.plain_term.ensures
    ∙ term_same c.args.law.now _ _ c.at-from.result c.centre-to.result _ _ mass c.at-from.ensures.value to
    ∙ sym (pull_of_whole c.args.law.now m c.args.n c.args.level c.args.key c.args.bodies.now deep some c.if-bodies-eq1.false
    (whole_told c.args.law.now c.args.level c.args.key c.at-from.result c.centre-to.result _ _ c.is_whole.result true c.at-from.ensures.value to
    c.is_whole.ensures c.if-is_whole.true))

pub loop-k-init : goal.loop-k-init
loop-k-init t c = c.none-sum.ensures

pub overflow_mul-below : goal.overflow_mul-below
overflow_mul-below t c =
    let some : length c.args.bodies.now ≢ 0 = list_has_some (length c.args.bodies.now) c.is_empty.result c.is_empty.ensures c.if-is_empty.false in
    omega (arith, part_key c.args.points.now c.args.masses.now c.args.level c.args.key c.args.bodies.now (omega arith) some c.requires.part)

pub overflow_add-below : goal.overflow_add-below
overflow_add-below t c =
    let some : length c.args.bodies.now ≢ 0 = list_has_some (length c.args.bodies.now) c.is_empty.result c.is_empty.ensures c.if-is_empty.false in
    omega (arith, part_key c.args.points.now c.args.masses.now c.args.level c.args.key c.args.bodies.now (omega arith) some c.requires.part)

pub pull_of_part-requires : goal.pull_of_part-requires
pull_of_part-requires t c =
    let part : c.deref.result.now ≡ in_octant (site_at c.args.points.now) c.args.level c.loop-k.k c.args.bodies.now = c.deref.ensures.value
    ∙ c.in_ok-octant.ensures in (
      omega arith,
      (
        c.requires.own,
        (
          omega arith,
          (
            c.requires.constant,
            subst (λ y. IsPart c.args.points.now c.args.masses.now (c.args.level + 1) (8 * c.args.key + y) c.deref.result.now) (sym c.from.ensures)
                (part_child c.args.points.now c.args.masses.now c.args.level c.args.key c.loop-k.k c.args.bodies.now c.deref.result.now (omega arith) part
                c.requires.part),
          ),
        ),
      ),
    )

-- the next octant's pull is that of its bodies
next_pull : (t : ℕ) (c : In_ok-more t)
    → c.in_ok-more.more ≡ octant_pulls c.args.law.now (matter_by c.args.masses.now c.args.points.now) c.args.n c.args.level c.args.key c.args.bodies.now
    c.loop-k.k
next_pull t c =
    let m : Matter = matter_by c.args.masses.now c.args.points.now in
    let law = c.args.law.now in
    let below : ℕ = 21 - (c.args.level + 1) in
    let part : c.deref.result.now ≡ in_octant (site_at c.args.points.now) c.args.level c.loop-k.k c.args.bodies.now = c.deref.ensures.value
    ∙ c.in_ok-octant.ensures in
    c.in_ok-more.ensures ∙ ap (λ y. pull_from law m c.args.n below (8 * c.args.key + y) (octree_from m.site below (c.args.level + 1) c.deref.result.now))
    c.from.ensures
    ∙ ap (λ y. pull_from law m c.args.n below (8 * c.args.key + c.loop-k.k) (octree_from m.site below (c.args.level + 1) y)) part

-- the sum so far and the next pull are small
are_small : (t : ℕ) (c : In_ok-more t) → IsSmall (2 ^ 80) 65536 c.loop-k.sum × IsSmall (2 ^ 80) 65536 c.in_ok-more.more
are_small t c =
    let P : Pull → Type 0 = λ y. IsSmall (2 ^ 80) 65536 y in
    let law = c.args.law.now in
    let points = c.args.points.now in
    let masses = c.args.masses.now in
    let all = c.requires in (
      subst P (sym c.loop-k.invariant)
          (front_small law points masses c.args.n c.args.level c.args.key c.args.bodies.now all.own (omega arith) all.constant all.part c.loop-k.k
          (omega arith)),
      subst P (sym (next_pull t c))
          (one_small law points masses c.args.n c.args.level c.args.key c.args.bodies.now all.own (omega arith) all.constant all.part c.loop-k.k (omega arith)),
    )

pub plus-sum-requires-clause-small : goal.plus-sum-requires-clause-small
plus-sum-requires-clause-small t c = widened _ (are_small t (goal.at.plus-sum-requires-clause-small t c).In_ok-more).0

pub plus-sum-requires-clause-other_small : goal.plus-sum-requires-clause-other_small
plus-sum-requires-clause-other_small t c = widened _ (are_small t (goal.at.plus-sum-requires-clause-other_small t c).In_ok-more).1

pub plus-sum-requires-clause-few : goal.plus-sum-requires-clause-few
plus-sum-requires-clause-few t c = let small = are_small t (goal.at.plus-sum-requires-clause-few t c).In_ok-more in omega (arith, small.0.met, small.1.met)

pub loop-k-preserved : goal.loop-k-preserved
loop-k-preserved t c =
    let f : ℕ → Pull = octant_pulls c.args.law.now (matter_by c.args.masses.now c.args.points.now) c.args.n c.args.level c.args.key c.args.bodies.now in
    c.plus-sum.ensures ∙ pull_step f c.loop-k.k c.loop-k.sum c.in_ok-more.more c.loop-k.invariant (next_pull t (goal.at.loop-k-preserved t c).In_ok-more)

pub returns : goal.returns
returns t c =
    let m : Matter = matter_by c.args.masses.now c.args.points.now in
    let all : c.loop-k.k ≡ 8 = omega arith in
    let some : length c.args.bodies.now ≢ 0 = list_has_some (length c.args.bodies.now) c.is_empty.result c.is_empty.ensures c.if-is_empty.false in
    let deep : c.args.level < 21 = omega arith in
    let to : c.centre-to.result ≡ centre m (part_tree m c.args.level c.args.bodies.now) = c.centre-to.ensures
    ∙ ap (λ (y : Moment). centre_of y) c.in_ok-cell.ensures in
    c.loop-k.invariant ∙ ap (pull_upto (octant_pulls c.args.law.now m c.args.n c.args.level c.args.key c.args.bodies.now)) all
    ∙ sym (pull_of_split c.args.law.now m c.args.n c.args.level c.args.key c.args.bodies.now deep some c.if-bodies-eq1.false
    (whole_told c.args.law.now c.args.level c.args.key c.at-from.result c.centre-to.result _ _ c.is_whole.result false c.at-from.ensures.value to
    c.is_whole.ensures c.if-is_whole.false))
