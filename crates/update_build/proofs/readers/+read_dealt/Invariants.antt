use Rattle.std.proofs.Common.{◌-◌, length}
use Rattle.update_build.specs.Contracting.{AreInside}
use Rattle.update_build.specs.Dealing.{IsOfWorker, LeaveChildren}
use Rattle.update_build.proofs.readers.+read_dealt.Given as goal

abbrev pub decreases-read_dealt : goal.decreases-read_dealt
decreases-read_dealt l = l.depth

abbrev pub invariant-loop-k : goal.invariant-loop-k
invariant-loop-k l =
    LeaveChildren l.points l.words.items (IsOfWorker l.workers l.worker) (l.depth - 1) l.key l.k l.fn.edits.items l.edits.items
    × AreInside (length l.words.items) l.edits.items
