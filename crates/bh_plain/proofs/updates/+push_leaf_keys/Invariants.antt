use Rattle.std.proofs.Common.{◌≡◌, ◌++◌, ◌-◌}
use Rattle.octant_code.specs.Points.{site_at}
use Rattle.bh_model.proofs.Lists.{joined}
use Rattle.bh_plain.proofs.ListUpdates.{octant_leaves}
use Rattle.bh_plain.proofs.updates.+push_leaf_keys.Given as goal

abbrev pub decreases-push_leaf_keys : goal.decreases-push_leaf_keys
decreases-push_leaf_keys l = 21 - l.level

abbrev pub invariant-loop-k : goal.invariant-loop-k
invariant-loop-k l = l.out.items ≡ l.fn.out.items ++ joined (octant_leaves (site_at l.points) l.n l.level l.key l.bodies) l.k
