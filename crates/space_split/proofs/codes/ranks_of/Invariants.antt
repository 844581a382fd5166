use Rattle.std.proofs.Common.{◌≡◌, map}
use Rattle.octree.specs.Ranks.{body_of_rank}
use Rattle.bh_model.specs.Bodies.{numbers}
use Rattle.space_split.proofs.codes.ranks_of.Given as goal

abbrev pub invariant-loop-n : goal.invariant-loop-n
invariant-loop-n l = map body_of_rank l.ranks.items ≡ numbers l.n
