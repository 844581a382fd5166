use Rattle.std.proofs.Common.{◌≡◌, length, map, take}
use Rattle.octree.specs.Ranks.{body_of_rank}
use Rattle.build_workers.proofs.order.rank_share.Given as goal

abbrev pub invariant-loop-i : goal.invariant-loop-i
invariant-loop-i l = (length l.ranks ≡ length l.share) × (map body_of_rank (take l.i l.ranks) ≡ take l.i l.share)
