use Rattle.std.proofs.Common.{length, ◌-◌}
use Rattle.force_walk.proofs.Walks.{IsOnTheWay}
use Rattle.force_walk.proofs.walk.walk.Given as goal

abbrev pub invariant-loop-at : goal.invariant-loop-at
invariant-loop-at l = IsOnTheWay l.law l.from l.place l.nodes l.at l.short l.wide

abbrev pub decreases-loop-at : goal.decreases-loop-at
decreases-loop-at l = length l.nodes - l.at
