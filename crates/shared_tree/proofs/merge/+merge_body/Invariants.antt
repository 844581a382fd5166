use Rattle.std.proofs.Common.{◌-◌}
use Rattle.shared_tree.proofs.merge.+merge_body.Given as goal

abbrev pub decreases-merge_body : goal.decreases-merge_body
decreases-merge_body g l = 21 - l.spot.level
