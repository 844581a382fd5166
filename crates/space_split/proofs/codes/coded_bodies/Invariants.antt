use Rattle.std.proofs.Common.{◌≡◌, map, take}
use Rattle.octree.specs.Ranks.{body_of_rank}
use Rattle.space_split.specs.Sorted.{coded_in}
use Rattle.space_split.proofs.codes.coded_bodies.Given as goal

abbrev pub invariant-loop-rank : goal.invariant-loop-rank
invariant-loop-rank l = l.bodies.items ≡ map (λ r. coded_in l.codes (body_of_rank r)) (take l.rank-index l.ranks)
