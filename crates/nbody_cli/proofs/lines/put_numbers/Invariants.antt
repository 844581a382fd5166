use Rattle.std.proofs.Common.{◌≤◌, take}
use Rattle.std.specs.List.{flat_map}
use Rattle.bh_outside.specs.Text.{PutsAll}
use Rattle.nbody_cli.specs.Lines.{number_text}
use Rattle.nbody_cli.proofs.lines.put_numbers.Given as goal

abbrev pub invariant-loop-number : goal.invariant-loop-number
invariant-loop-number g l =
    PutsAll (g.K.Sink.written l.fn.sink) (g.K.Sink.written l.sink) l.fn.buffer l.buffer (flat_map number_text (take l.number-index l.numbers))
    × (g.K.Sink.faults l.fn.sink ≤ g.K.Sink.faults l.sink)
