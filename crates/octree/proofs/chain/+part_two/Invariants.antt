use Rattle.std.proofs.Common.{◌-◌}
use Rattle.octree.proofs.chain.+part_two.Given as goal

abbrev pub decreases-part_two : goal.decreases-part_two
decreases-part_two l = 21 - l.cube.level
