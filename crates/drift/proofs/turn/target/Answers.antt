use Rattle.std.proofs.Common.{◌∙◌, ap, arith}
use Rattle.std.proofs.lemmas.Int.{ints, to_z-of_z}
use Rattle.drift.specs.declared.body_motion.BodyMotion.{BodyMotion}
use Rattle.drift.proofs.Turning.{target_is}
use Rattle.drift.proofs.turn.target.Goals as goal

pub returns : goal.returns
returns c = target_is c.args.pull.now c.args.body.now _ _
    c.along-x.result c.along-y.result c.along-z.result _ _ _ (ap (λ (m : BodyMotion). m.exact) c.body.view_is)
    (c.velocity.view_is ∙ ap (λ (m : BodyMotion). m.velocity) c.body.view_is)
    (grind (arith, to_z-of_z, c.along-x.ensures.value, c.sped.ensures.value)) (grind (arith, to_z-of_z, c.along-y.ensures.value, c.sped-2.ensures.value))
    (grind (arith, to_z-of_z, c.along-z.ensures.value, c.sped-3.ensures.value)) (omega (arith, ints)) (omega (arith, ints)) (omega (arith, ints))
