use Rattle.std.proofs.Common.{◌∙◌, ap, sym}
use Rattle.nbody_options.specs.Choices.{Choices}
use Rattle.nbody_cli.proofs.Serving.{opened_made, options_memory}
use Rattle.nbody_cli.proofs.service.open_engine.Goals as goal

pub returns-in-Ok-clause-opened : goal.returns-in-Ok-clause-opened
returns-in-Ok-clause-opened g c =
    let trial = sym (ap (λ (o : Choices). o.command) c.options.view_is) ∙ c.in-Trial.is in
    λ ps. opened_made ps c.args.options.now (g.S.Source.left c.args.source.now) c.in-Ok.opened.0 c.in-Ok.opened.1 trial c.in-Ok.ensures.bodies
    c.in-Ok.ensures.accepted
    c.in-Ok.ensures.engine

pub returns-in-Err-clause-ended : goal.returns-in-Err-clause-ended
returns-in-Err-clause-ended g c = λ ps yard. options_memory ps c.args.options.now _ _ _ _ _ _ _ yard
