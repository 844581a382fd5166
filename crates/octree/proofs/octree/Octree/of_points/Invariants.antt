use Rattle.std.proofs.Common.{map}
use Rattle.octree.proofs.Builds.{IsBuilt}
use Rattle.octree.specs.Ranks.{body_of_rank}
use Rattle.octree.proofs.octree.Octree.of_points.Given as goal

abbrev pub invariant-loop-rank : goal.invariant-loop-rank
invariant-loop-rank l = IsBuilt l.points (map body_of_rank l.rank-items) l.tree l.rank-index
