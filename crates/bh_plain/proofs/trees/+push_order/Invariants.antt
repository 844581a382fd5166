use Rattle.std.proofs.Common.{◌≡◌, ◌++◌, ◌-◌}
use Rattle.octant_code.specs.Points.{site_at}
use Rattle.bh_model.proofs.Lists.{joined}
use Rattle.bh_model.proofs.Splits.{octant_orders}
use Rattle.bh_plain.proofs.trees.+push_order.Given as goal

abbrev pub decreases-push_order : goal.decreases-push_order
decreases-push_order l = 21 - l.level

abbrev pub invariant-loop-k : goal.invariant-loop-k
invariant-loop-k l = l.out.items ≡ l.fn.out.items ++ joined (octant_orders (site_at l.points) l.level l.bodies) l.k
