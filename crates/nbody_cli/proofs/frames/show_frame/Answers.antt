use Rattle.bh_outside.proofs.Takings.{prefix_more}
use Rattle.nbody_cli.proofs.KeptProbes.{shows_then}
use Rattle.nbody_cli.specs.Frames.{frame_lines}
use Rattle.nbody_cli.specs.Lines.{lines_text}
use Rattle.nbody_cli.proofs.frames.show_frame.Goals as goal

pub returns-in-Ok-clause-shows : goal.returns-in-Ok-clause-shows
returns-in-Ok-clause-shows g c =
    shows_then (lines_text (frame_lines c.args.engine.now)) _ _ _ _ _ _ _ c.show_probes.result c.in-Ok.ensures.text c.in-Ok.ensures.cause.later
    c.show_probes.ensures.shows

pub returns-in-Err-clause-shows : goal.returns-in-Err-clause-shows
returns-in-Err-clause-shows g c =
    (c.in-Err.ensures.cause.failed, prefix_more _ _ (lines_text (frame_lines c.args.engine.now)) _ c.in-Err.ensures.text)
