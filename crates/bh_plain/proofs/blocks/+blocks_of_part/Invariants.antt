use Rattle.std.proofs.Common.{◌≡◌, ◌+◌, ◌-◌}
use Rattle.octant_code.specs.Points.{site_at}
use Rattle.bh_model.proofs.Blocks.{octant_blocks}
use Rattle.bh_model.proofs.Totals.{sum_upto}
use Rattle.bh_plain.proofs.blocks.+blocks_of_part.Given as goal

abbrev pub decreases-blocks_of_part : goal.decreases-blocks_of_part
decreases-blocks_of_part l = 21 - l.level

abbrev pub invariant-loop-k : goal.invariant-loop-k
invariant-loop-k l = l.sum ≡ sum_upto (octant_blocks (site_at l.points) (21 - (l.level + 1)) l.level l.bodies l.others) l.k
