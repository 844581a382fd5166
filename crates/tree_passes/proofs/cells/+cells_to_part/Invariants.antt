use Rattle.std.proofs.Common.{◌-◌}
use Rattle.tree_passes.proofs.cells.+cells_to_part.Given as goal

abbrev pub decreases-cells_to_part : goal.decreases-cells_to_part
decreases-cells_to_part l = 21 - l.level
