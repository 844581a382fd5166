use Rattle.std.proofs.Common.{◌<◌, ◌≡◌, ℕ, length, slice_index}
use Rattle.force_walk.specs.Least.{IsLeast}
use Rattle.force_walk.proofs.least.least_distances.Given as goal

abbrev pub invariant-loop-down : goal.invariant-loop-down
invariant-loop-down l = record { long : length l.list ≡ 22; so_far : (down : ℕ) → down < l.down → IsLeast l.law down (slice_index l.list down) }
