use Rattle.std.proofs.Common.{◌-◌}
use Rattle.update_build.proofs.WaysDown.{IsOnWay}
use Rattle.update_build.proofs.leaves.leaf_of.Given as goal

abbrev pub invariant-down : goal.invariant-down
invariant-down l = IsOnWay l.points l.words.items l.n l.place l.level

abbrev pub decreases-down : goal.decreases-down
decreases-down l = 21 - l.level
