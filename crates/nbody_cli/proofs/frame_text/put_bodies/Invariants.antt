use Rattle.std.proofs.Common.{◌≤◌}
use Rattle.std.specs.List.{flat_map}
use Rattle.bh_model.specs.Bodies.{numbers}
use Rattle.bh_outside.specs.Text.{PutsAll}
use Rattle.nbody_cli.specs.Frames.{body_line_of}
use Rattle.nbody_cli.specs.Lines.{line_text}
use Rattle.nbody_cli.proofs.frame_text.put_bodies.Given as goal

abbrev pub invariant-loop-n : goal.invariant-loop-n
invariant-loop-n g l =
    PutsAll (g.K.Sink.written l.fn.sink) (g.K.Sink.written l.sink) l.fn.buffer l.buffer (flat_map (λ k. line_text (body_line_of l.engine k)) (numbers l.n))
    × (g.K.Sink.faults l.fn.sink ≤ g.K.Sink.faults l.sink)
