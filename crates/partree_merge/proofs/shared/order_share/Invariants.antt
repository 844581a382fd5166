use Rattle.std.proofs.Common.{◌≡◌, length, map, take}
use Rattle.octree.specs.Ranks.{body_of_rank}
use Rattle.partree_merge.proofs.shared.order_share.Given as goal

abbrev pub invariant-loop-i : goal.invariant-loop-i
invariant-loop-i l = (length l.sequence ≡ length l.share) × (take l.i l.sequence ≡ map body_of_rank (take l.i l.ranks))
