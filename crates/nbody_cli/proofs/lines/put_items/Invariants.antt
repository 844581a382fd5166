use Rattle.std.proofs.Common.{◌≤◌, take}
use Rattle.std.specs.List.{flat_map}
use Rattle.bh_outside.specs.Text.{PutsAll}
use Rattle.nbody_cli.specs.Lines.{item_text}
use Rattle.nbody_cli.specs.Seen.{item_of}
use Rattle.nbody_cli.proofs.lines.put_items.Given as goal

abbrev pub invariant-loop-item : goal.invariant-loop-item
invariant-loop-item g l =
    PutsAll (g.K.Sink.written l.fn.sink) (g.K.Sink.written l.sink) l.fn.buffer l.buffer (flat_map (λ x. item_text (item_of x)) (take l.item-index l.items))
    × (g.K.Sink.faults l.fn.sink ≤ g.K.Sink.faults l.sink)
