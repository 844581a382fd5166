use Rattle.std.proofs.Common.{◌-◌, ◌≤◌, length}
use Rattle.space_split.proofs.shares.end_of.Given as goal

abbrev pub invariant-loop-end : goal.invariant-loop-end
invariant-loop-end l = (l.start ≤ l.end) × (l.end ≤ length l.pieces)

abbrev pub decreases-loop-end : goal.decreases-loop-end
decreases-loop-end l = length l.pieces - l.end
