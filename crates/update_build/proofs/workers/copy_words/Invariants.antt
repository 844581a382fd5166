use Rattle.std.proofs.Common.{◌≡◌, length, take}
use Rattle.std.specs.Slots.{slots_items}
use Rattle.update_build.proofs.workers.copy_words.Given as goal

abbrev pub invariant-loop-i : goal.invariant-loop-i
invariant-loop-i l = (length l.words.items ≡ length l.fn.words.items) × (take l.i l.words.items ≡ take l.i (slots_items l.closed.words))
