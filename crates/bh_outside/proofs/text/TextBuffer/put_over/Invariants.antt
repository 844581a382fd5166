use Rattle.std.proofs.Common.{◌≤◌, ◌+◌, ◌++◌, length}
use Rattle.bh_outside.specs.Text.{PutsAll}
use Rattle.bh_outside.proofs.text.TextBuffer.put_over.Given as goal

abbrev pub invariant-loop-self : goal.invariant-loop-self
invariant-loop-self g l = PutsAll (g.K.Sink.written l.initial.sink) (g.K.Sink.written l.sink) l.initial.self (l.self ++ l.rest) l.fn.text
    × (g.K.Sink.faults l.initial.sink ≤ g.K.Sink.faults l.sink)

abbrev pub decreases-loop-self : goal.decreases-loop-self
decreases-loop-self g l = length l.rest + length l.self
