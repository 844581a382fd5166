use Rattle.std.proofs.Common.{Bor, List, arith, get_or}
use Rattle.std.specs.Prelude.{IfOk}
use Rattle.std.proofs.lemmas.Result.{IfOk-weaker}
use Rattle.space_split.specs.Parts.{AreBuilt}
use Rattle.space_split.specs.declared.cube.Cube.{Cube}
use Rattle.space_split.proofs.Joining.{zip_by_place}
use Rattle.space_split.proofs.shares.work_all.Goals as goal

pub returns : goal.returns
returns g c =
    zip_by_place (λ s r. IfOk r (λ parts. AreBuilt c.args.points.now c.args.bodies.now s.now parts.items)) c.args.shares.now c.in_ok-built.built.items
    (omega (arith, c.in_ok-built.ensures.len, c.in_ok-built.built.ok))
    (λ i d e l.
    IfOk-weaker (get_or c.in_ok-built.built.items i e)
    (λ v. (d : Bor (List Cube)) → AreBuilt c.args.points.now c.args.bodies.now (get_or c.args.shares.now i d).now v.items)
    (λ v. AreBuilt c.args.points.now c.args.bodies.now (get_or c.args.shares.now i d).now v.items) (λ v h. h d) (c.in_ok-built.ensures.each i e l).1.met)
