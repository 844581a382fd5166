use Rattle.std.proofs.Common.{◌≡◌, drop, length}
use Rattle.update_build.specs.Contracting.{applied}
use Rattle.update_build.proofs.edits.apply.Given as goal

abbrev pub invariant-loop-i : goal.invariant-loop-i
invariant-loop-i l =
    (applied l.words.items (drop l.i l.edits) ≡ applied l.fn.words.items l.edits) × (length l.words.items ≡ length l.fn.words.items)
