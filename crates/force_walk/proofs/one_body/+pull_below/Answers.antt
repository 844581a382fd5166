use Rattle.std.proofs.Common.{◌≡◌, ◌∙◌, ap, arith, sym}
use Rattle.bh_model.specs.Moments.{centre}
use Rattle.bh_model.specs.declared.moment.Moment.{Moment}
use Rattle.bh_model.proofs.PullBounds.{whole_apart}
use Rattle.bh_model.proofs.PullSums.{pull_step}
use Rattle.octree.proofs.Laws.{child_height, child_octree}
use Rattle.octree.specs.Spot.{child_under, tree_under}
use Rattle.scene_file.specs.declared.bodies.Body.{Body}
use Rattle.force_walk.specs.Views.{seen}
use Rattle.force_walk.proofs.Cubes.{cube_body, cube_child, cube_deep, cube_key, cube_massive, cube_room}
use Rattle.force_walk.proofs.Flats.{child_pull}
use Rattle.force_walk.proofs.Layings.{kept_centre, kept_mass}
use Rattle.force_walk.proofs.Placements.{site_of_body}
use Rattle.force_walk.proofs.SubtreePulls.{Fits, child_part, parts_fit, pull_none, pull_opened, pull_other, pull_own, pull_taken}
use Rattle.force_walk.proofs.Scenes.{bodies_apart}
use Rattle.force_walk.proofs.one_body.+pull_below.Goals.{After-centre-centre, After-get-body, After-pull_below}
use Rattle.force_walk.proofs.one_body.+pull_below.Goals as goal

pub get-body-requires : goal.get-body-requires
get-body-requires t c = cube_body c.in-Body.ensures c.requires.cube

-- where the other body is
point : (t : _) (c : After-get-body t) → c.get-body.result.at ≡ (seen c.args.view.now).site c.in-Body.other
point t c =
    ap (λ (b : Body). b.at) c.get-body.ensures.value
    ∙ sym (site_of_body c.args.view.now.bodies.now c.in-Body.other (cube_body c.in-Body.ensures c.requires.cube))

pub term_to-requires-clause-apart : goal.term_to-requires-clause-apart
term_to-requires-clause-apart t c =
    let away = (bodies_apart c.args.view.now.bodies.now c.args.view.now.n c.requires.view.bodies c.requires.view.within).apart c.in-Body.other
    (cube_body c.in-Body.ensures c.requires.cube) c.if-other-view.false in
    let here = point t (goal.at.term_to-requires-clause-apart t c).After-get-body in
    rw (c.requires.view.from_is, here) (omega (arith, away))

pub centre-centre-requires-clause-massive : goal.centre-centre-requires-clause-massive
centre-centre-requires-clause-massive t c =
    omega (
      arith,
      kept_mass (seen c.args.view.now) c.args.view.now.moments.now c.number-number.result.0 c.in-Cell.ensures c.requires.moments c.number-number.ensures,
      cube_massive c.in-Cell.ensures c.requires.cube,
    )

-- where the cell's centre is
centre_is : (t : _) (c : After-centre-centre t) → c.centre-centre.result ≡ centre (seen c.args.view.now) (tree_under c.args.at.now)
centre_is t c =
    c.centre-centre.ensures
    ∙ kept_centre (seen c.args.view.now) c.args.view.now.moments.now c.number-number.result.0 c.in-Cell.ensures c.requires.moments c.number-number.ensures

pub term_to-requires-then-takes_whole-clause-apart : goal.term_to-requires-then-takes_whole-clause-apart
term_to-requires-then-takes_whole-clause-apart t c =
    omega (
      arith,
      whole_apart c.args.view.now.law.now c.args.down c.args.key c.args.view.now.from c.centre-centre.result
          (sym c.takes_whole.ensures ∙ c.if-takes_whole.true),
    )

pub overflow_mul-child_key : goal.overflow_mul-child_key
overflow_mul-child_key t c = omega (arith, cube_key c.in-Cell.ensures c.requires.cube c.args.key c.requires.room)

pub overflow_add-child_key : goal.overflow_add-child_key
overflow_add-child_key t c = omega (arith, cube_key c.in-Cell.ensures c.requires.cube c.args.key c.requires.room, c.from-in-loop-k.ensures, c.loop-k-test.true)

pub overflow_sub-down : goal.overflow_sub-down
overflow_sub-down t c = omega (arith, cube_deep c.in-Cell.ensures c.requires.cube)

pub pull_below-requires : goal.pull_below-requires
pull_below-requires t c =
    let less = child_height _ _ _ _ c.in-Cell.ensures c.child.ensures c.loop-k-test.true in
    let same = child_octree _ _ _ _ c.in-Cell.ensures c.child.ensures in (
      omega (arith, less),
      (
        c.requires.view,
        (
          cube_child c.in-Cell.ensures c.requires.cube c.child.ensures c.loop-k-test.true,
          (
            rw c.from-in-loop-k.ensures (cube_room c.in-Cell.ensures c.requires.cube c.args.key c.loop-k.k c.loop-k-test.true c.requires.room),
            rw same c.requires.moments,
          ),
        ),
      ),
    )

-- the pull of one more child, which fits beside the sum so far
part : (t : _) (c : After-pull_below t)
    → c.pull_below.result ≡ child_pull c.args.view.now.law.now (seen c.args.view.now) c.args.view.now.n c.args.down c.args.key (child_under c.in-Cell.cell)
    c.loop-k.k
part t c =
    child_part c.in-Cell.ensures c.requires.cube c.child.ensures c.loop-k-test.true c.args.view.now.law.now c.args.view.now.n c.args.key c.from-in-loop-k.result
    c.pull_below.result c.from-in-loop-k.ensures c.pull_below.ensures

fits : (t : _) (c : After-pull_below t) → Fits c.loop-k.sum c.pull_below.result
fits t c =
    parts_fit c.in-Cell.ensures c.requires.cube c.child.ensures c.loop-k-test.true c.args.view.now.law.now c.args.view.now.n c.args.key c.loop-k.sum
    c.pull_below.result
    c.requires.view.rule
    (bodies_apart c.args.view.now.bodies.now c.args.view.now.n c.requires.view.bodies c.requires.view.within) c.loop-k.invariant (part t c)

pub plus-sum-requires-clause-small : goal.plus-sum-requires-clause-small
plus-sum-requires-clause-small t c = (fits t c).one

pub plus-sum-requires-clause-other_small : goal.plus-sum-requires-clause-other_small
plus-sum-requires-clause-other_small t c = (fits t c).other

pub plus-sum-requires-clause-few : goal.plus-sum-requires-clause-few
plus-sum-requires-clause-few t c = (fits t c).few

pub loop-k-preserved : goal.loop-k-preserved
loop-k-preserved t c =
    c.plus-sum.ensures ∙ pull_step _ c.loop-k.k c.loop-k.sum c.pull_below.result c.loop-k.invariant (part t (goal.at.loop-k-preserved t c).After-pull_below)

pub returns-in-Nothing : goal.returns-in-Nothing
returns-in-Nothing t c = c.none.ensures ∙ pull_none c.args.view.now.law.now (seen c.args.view.now) c.args.view.now.n c.args.down c.args.key c.in-Nothing.ensures

pub returns-then-other-view : goal.returns-then-other-view
returns-then-other-view t c =
    c.none-then-other-view.ensures
    ∙ pull_own c.args.view.now.law.now (seen c.args.view.now) c.args.view.now.n c.args.down c.args.key c.in-Body.ensures c.if-other-view.true

pub returns-else-other-view : goal.returns-else-other-view
returns-else-other-view t c =
    let mass = c.from.ensures ∙ ap (λ (b : Body). b.mass) c.get-body.ensures.value in
    pull_other c.args.view.now.law.now (seen c.args.view.now) c.args.view.now.n c.args.down c.args.key c.from.result c.args.view.now.from
    c.get-body.result.at c.term_to.result c.in-Body.ensures c.if-other-view.false c.requires.view.from_is mass
    (point t (goal.at.returns-else-other-view t c).After-get-body) c.term_to.ensures

pub returns-then-takes_whole : goal.returns-then-takes_whole
returns-then-takes_whole t c =
    let mass = ap (λ (m : Moment). m.mass) c.of.ensures
    ∙ kept_mass (seen c.args.view.now) c.args.view.now.moments.now c.number-number.result.0 c.in-Cell.ensures c.requires.moments c.number-number.ensures in
    pull_taken (seen c.args.view.now) c.args.down c.args.key c.in-Cell.ensures c.centre-centre.result
    (centre_is t (goal.at.returns-then-takes_whole t c).After-centre-centre) c.args.view.now.law.now c.args.view.now.n c.of.result.mass c.args.view.now.from
    c.term_to-then-takes_whole.result mass c.requires.view.from_is (sym c.takes_whole.ensures ∙ c.if-takes_whole.true) c.term_to-then-takes_whole.ensures

pub returns-after-loop-k : goal.returns-after-loop-k
returns-after-loop-k t c =
    pull_opened (seen c.args.view.now) c.args.down c.args.key c.in-Cell.ensures c.centre-centre.result
    (centre_is t (goal.at.returns-after-loop-k t c).After-centre-centre) c.args.view.now.law.now c.args.view.now.n c.loop-k.k c.args.view.now.from c.loop-k.sum
    c.requires.view.from_is (sym c.takes_whole.ensures ∙ c.if-takes_whole.false) (omega arith) c.loop-k.invariant
