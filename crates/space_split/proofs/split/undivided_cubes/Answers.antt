use Rattle.std.proofs.Common.{◌≡◌, ◌≤◌, ◌∙◌, All, ap, arith, flat_map, inl, inr, subst}
use Rattle.space_split.specs.Ranges.{division_of}
use Rattle.space_split.specs.declared.cube.Cube.{Cube}
use Rattle.space_split.proofs.Divisions.{all_undivided, next_level}
use Rattle.space_split.proofs.Runs.{next_whole}
use Rattle.space_split.proofs.split.undivided_cubes.Goals as goal

pub returns-then-are_small-clause-cubes : goal.returns-then-are_small-clause-cubes
returns-then-are_small-clause-cubes g c =
    let small : All (λ (q : Cube). q.count ≤ c.args.most) c.deref.result.now = c.are_small.ensures.0 c.if-are_small.true in
    all_undivided c.args.codes.now c.args.most c.loop-level.level c.loop-level.cubes.items c.loop-level.invariant.0
    (inl (subst (All (λ (q : Cube). q.count ≤ c.args.most)) c.deref.ensures.value small))

pub loop-level-init : goal.loop-level-init
loop-level-init g c = (c.in_ok-cubes.ensures.cubes c.args.most, c.in_ok-cubes.ensures.whole)

pub loop-level-preserved : goal.loop-level-preserved
loop-level-preserved g c =
    let own = c.in_ok-cubes-2.ensures ∙ ap (flat_map (division_of c.args.codes.now c.args.most c.loop-level.level)) c.deref-in-loop-level.ensures.value in
    let next =
    next_level c.args.codes.now c.args.most c.loop-level.level c.loop-level.cubes.items c.in_ok-cubes-2.cubes.items c.loop-level-test.true
    c.requires.rule.rising c.loop-level.invariant.0 own in (
      next,
      next_whole c.args.codes.now c.args.most c.loop-level.level c.loop-level.cubes.items c.in_ok-cubes-2.cubes.items c.loop-level-test.true
          c.requires.rule.rising c.loop-level.invariant.0 next own c.loop-level.invariant.1,
    )

pub returns-clause-cubes : goal.returns-clause-cubes
returns-clause-cubes g c =
    let last : c.loop-level.level ≡ 21 = omega (arith, c.loop-level-test.false, c.loop-level.auto.level-end) in
    all_undivided c.args.codes.now c.args.most c.loop-level.level c.loop-level.cubes.items c.loop-level.invariant.0 (inr last)
