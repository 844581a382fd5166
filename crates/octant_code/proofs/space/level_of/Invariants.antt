use Rattle.std.proofs.Common.{◌≡◌, ◌≤◌, ◌/◌, ◌^◌}
use Rattle.octant_code.proofs.space.level_of.Given as goal

abbrev pub invariant-loop-level : goal.invariant-loop-level
invariant-loop-level l = (l.rest ≡ l.key / 8 ^ l.level) × (8 ^ l.level ≤ l.key)
