use Rattle.std.proofs.Common.{subst}
use Rattle.frame_core.specs.Engines.{EngineState}
use Rattle.nbody_cli.specs.Lines.{lines_text}
use Rattle.nbody_cli.specs.Serving.{Shows}
use Rattle.nbody_cli.specs.Text.{lines_of_frame}
use Rattle.nbody_options.specs.declared.options.Command.TheVariants.{Trial}
use Rattle.nbody_cli.proofs.frames.show_trial.Goals as goal

pub returns-in-Ok-clause-shows : goal.returns-in-Ok-clause-shows
returns-in-Ok-clause-shows g c =
    let P : EngineState → Type 0 = λ e. Shows (lines_text (lines_of_frame Trial c.args.options.now e)) (g.K.Sink.written c.args.sink.now)
    (g.K.Sink.faults c.args.sink.now) (g.K.Sink.written c.show_last.new.sink) (g.K.Sink.faults c.show_last.new.sink) c.show_last.result in
    subst P c.in-Ok.ensures.made c.show_last.ensures
