use Rattle.std.proofs.Common.{◌<◌, ℕ}
use Rattle.octant_code.specs.Space.{IsInCube}
use Rattle.octant_code.specs.Points.{site_at}
use Rattle.octant_code.proofs.points.all_in_cube.Given as goal

abbrev pub invariant-loop-p : goal.invariant-loop-p
invariant-loop-p l = (k : ℕ) → k < l.p-index → IsInCube (site_at l.list k)
