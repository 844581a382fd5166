use Rattle.std.proofs.Common.{ℕ, ◌<◌, ◌≤◌, ◌≡◌, ◌*◌, ◌^◌}
use Rattle.tree_rule.proofs.stands.is_cell_key.Given as goal

abbrev pub invariant-loop-i : goal.invariant-loop-i
invariant-loop-i l = (l.low ≡ 8 ^ l.i) × ((k : ℕ) → k < l.i → 2 * 8 ^ k ≤ l.key)
