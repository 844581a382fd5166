use Rattle.std.proofs.Common.{◌≡◌, ◌∙◌, ◌+◌, ap, arith}
use Rattle.nbody_options.specs.Choices.{Choices}
use Rattle.probe.specs.Figures.{FrameFigures}
use Rattle.nbody_cli.proofs.Stages.{last_shown}
use Rattle.nbody_cli.specs.declared.status.Status.TheVariants as status
use Rattle.nbody_cli.proofs.frames.show_last.Goals as goal

pub returns-in-Err : goal.returns-in-Err
returns-in-Err g c =
    let number : c.frame.inside.step ≡ c.args.engine.now.step = ap (λ (f : FrameFigures). f.step) c.frame.view_is
    ∙ ap (λ (f : FrameFigures). f.step) c.requires.figures in
    let steps = ap (λ (o : Choices). o.steps) c.options.view_is in
    let last : c.args.engine.now.step + 1 ≡ c.args.options.now.steps = omega
    (arith, number, steps, c.if-frame-options.true, c.options.invariant.steps_are_positive) in
    last_shown c.args.options.now c.args.engine.now _ _ _ _ status.Write last (c.in-Err.ensures.cause.failed, c.in-Err.ensures.text)
