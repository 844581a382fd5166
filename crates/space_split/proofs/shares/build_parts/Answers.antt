use Rattle.std.proofs.Common.{◌≡◌, ◌+◌, ◌-◌, ◌∷◌, ◌++◌, [], arith, drop, get_or, subst, sym, take}
use Rattle.std.proofs.lemmas.List.{take_more}
use Rattle.space_split.specs.Bodies.{AreUnder, bodies_of}
use Rattle.space_split.specs.Parts.{AreBuilt, IsPartOf}
use Rattle.space_split.specs.declared.cube.Cube.{Cube}
use Rattle.space_split.proofs.Joining.{zip_append}
use Rattle.space_split.proofs.Pushes.{made_cube}
use Rattle.space_split.proofs.shares.build_parts.Goals as goal

pub build_part-requires : goal.build_part-requires
build_part-requires g c =
    let cube : Cube = get_or c.args.cubes.now c.loop-i.i (made_cube 0 0 0) in
    let many : cube.count ≡ cube.start + cube.count - cube.start = omega arith in
    subst (λ n. AreUnder c.args.points.now cube.key (take n (drop cube.start c.args.bodies.now))) many
    (c.requires c.loop-i.i (made_cube 0 0 0) c.loop-i-test.true).own

pub loop-i-preserved : goal.loop-i-preserved
loop-i-preserved g c =
    let cube : Cube = get_or c.args.cubes.now c.loop-i.i (made_cube 0 0 0) in
    let many : cube.start + cube.count - cube.start ≡ cube.count = omega arith in
    let own : IsPartOf c.args.points.now cube.key (bodies_of c.args.bodies.now cube) c.in_ok-part.part =
    subst (λ n. IsPartOf c.args.points.now cube.key (take n (drop cube.start c.args.bodies.now)) c.in_ok-part.part) many c.in_ok-part.ensures in
    subst (λ y. AreBuilt c.args.points.now c.args.bodies.now y c.push.new.self.items)
    (sym (take_more c.args.cubes.now c.loop-i.i (made_cube 0 0 0) c.loop-i-test.true))
    (subst (AreBuilt c.args.points.now c.args.bodies.now (take c.loop-i.i c.args.cubes.now ++ (cube ∷ []))) (sym c.in_ok-push.ensures.items)
    (zip_append (λ o p. IsPartOf c.args.points.now o.key (bodies_of c.args.bodies.now o) p) (take c.loop-i.i c.args.cubes.now) (cube ∷ [])
    c.loop-i.parts.items (c.in_ok-part.part ∷ []) c.loop-i.invariant (own, tt)))
