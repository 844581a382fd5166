use Rattle.std.proofs.Common.{map}
use Rattle.octree.proofs.EachOnce.{IsRow}
use Rattle.octree.specs.Ranks.{body_of_rank}
use Rattle.octree.proofs.ranks.ranks_of.Given as goal

abbrev pub invariant-loop-n : goal.invariant-loop-n
invariant-loop-n l = IsRow (map body_of_rank l.ranks.items) l.n
