use Rattle.std.proofs.Common.{◌≤◌, take}
use Rattle.std.specs.List.{flat_map}
use Rattle.bh_outside.specs.Text.{PutsAll}
use Rattle.nbody_cli.specs.Lines.{line_text}
use Rattle.nbody_cli.specs.Seen.{line_of}
use Rattle.nbody_cli.proofs.lines.put_lines.Given as goal

abbrev pub invariant-loop-line : goal.invariant-loop-line
invariant-loop-line g l =
    PutsAll (g.K.Sink.written l.fn.sink) (g.K.Sink.written l.sink) l.fn.buffer l.buffer (flat_map (λ x. line_text (line_of x)) (take l.line-index l.lines))
    × (g.K.Sink.faults l.fn.sink ≤ g.K.Sink.faults l.sink)
