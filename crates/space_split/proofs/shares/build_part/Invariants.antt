use Rattle.space_split.proofs.Building.{IsGrown}
use Rattle.space_split.proofs.shares.build_part.Given as goal

abbrev pub invariant-loop-coded : goal.invariant-loop-coded
invariant-loop-coded l = IsGrown l.points l.key l.bodies l.tree l.coded-index
