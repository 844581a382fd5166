use Rattle.std.proofs.Common.{List, ◌++◌, map, subst}
use Rattle.bh_outside.proofs.Takings.{no_prefix}
use Rattle.frame_core.specs.Engines.{EngineState, frame_of}
use Rattle.nbody_cli.specs.Frames.{frame_lines}
use Rattle.nbody_cli.specs.Lines.{lines_text}
use Rattle.nbody_cli.specs.Probes.{lines_at}
use Rattle.nbody_cli.specs.Serving.{Shows}
use Rattle.probe.specs.Figures.{FrameFigures}
use Rattle.probe.specs.States.{ProbeState}
use Rattle.nbody_cli.proofs.frames.show_step.Goals as goal

pub returns-in-Ok-clause-shows : goal.returns-in-Ok-clause-shows
returns-in-Ok-clause-shows g c =
    let probes : List ProbeState =
    map (λ b. record { kind = (goal.Probe-dyn g (b.vtable, b.value)).kind b.value; state = (goal.Probe-dyn g (b.vtable, b.value)).state b.value })
    c.args.probes.now.items in
    let P : EngineState → FrameFigures
    → Type 0 = λ e f. Shows (lines_text (frame_lines e) ++ lines_at f probes) (g.K.Sink.written c.args.sink.now) (g.K.Sink.faults c.args.sink.now)
    (g.K.Sink.written c.show_frame.new.sink) (g.K.Sink.faults c.show_frame.new.sink) c.show_frame.result in
    subst (λ e. P e (frame_of c.args.engine.now)) c.in-Ok.ensures.made (subst (λ f. P c.frame.new.self f) c.in-Ok.ensures.figures c.show_frame.ensures.shows)

pub returns-in-Err-clause-shows : goal.returns-in-Err-clause-shows
returns-in-Err-clause-shows g c = no_prefix (g.K.Sink.written c.args.sink.now) _
