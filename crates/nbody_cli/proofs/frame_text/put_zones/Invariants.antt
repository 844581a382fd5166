use Rattle.std.proofs.Common.{◌≤◌}
use Rattle.std.specs.List.{flat_map}
use Rattle.bh_model.specs.Bodies.{numbers}
use Rattle.bh_outside.specs.Text.{PutsAll}
use Rattle.nbody_cli.specs.Frames.{zone_line_of}
use Rattle.nbody_cli.specs.Lines.{line_text}
use Rattle.nbody_cli.proofs.frame_text.put_zones.Given as goal

abbrev pub invariant-loop-w : goal.invariant-loop-w
invariant-loop-w g l =
    PutsAll (g.K.Sink.written l.fn.sink) (g.K.Sink.written l.sink) l.fn.buffer l.buffer (flat_map (λ k. line_text (zone_line_of l.engine k)) (numbers l.w))
    × (g.K.Sink.faults l.fn.sink ≤ g.K.Sink.faults l.sink)
