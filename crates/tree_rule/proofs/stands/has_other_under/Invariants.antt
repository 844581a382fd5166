use Rattle.std.proofs.Common.{ℕ, ◌<◌, ◌≡◌, get_or}
use Rattle.octant_code.specs.Space.{IsUnder}
use Rattle.octant_code.specs.Points.{site_at}
use Rattle.tree_rule.proofs.stands.has_other_under.Given as goal

abbrev pub invariant-loop-x : goal.invariant-loop-x
invariant-loop-x l = (k : ℕ) → k < l.x-index → (l.one ≡ get_or l.bodies k 0 → ⊥) → IsUnder l.key (site_at l.points (get_or l.bodies k 0)) → ⊥
