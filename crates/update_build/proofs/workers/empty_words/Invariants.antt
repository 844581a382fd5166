use Rattle.std.proofs.Common.{◌≡◌, take}
use Rattle.update_build.specs.Sweeping.{HasEmptied}
use Rattle.update_build.proofs.workers.empty_words.Given as goal

abbrev pub invariant-loop-i : goal.invariant-loop-i
invariant-loop-i l =
    (l.pass.table_id ≡ l.fn.pass.table_id) × (l.pass.me.1 ≡ l.fn.pass.me.1) × HasEmptied (take l.i l.places) l.fn.pass.me.0 l.pass.me.0
