use Rattle.std.proofs.Common.{ℕ, ◌<◌, get_or}
use Rattle.octant_code.specs.Space.{IsUnder}
use Rattle.octant_code.specs.Points.{site_at}
use Rattle.tree_rule.proofs.stands.has_more_under.Given as goal

abbrev pub invariant-loop-x : goal.invariant-loop-x
invariant-loop-x l = (k : ℕ) → k < l.x-index → IsUnder l.key (site_at l.points (get_or l.bodies k 0)) → ⊥
