use Rattle.std.proofs.Common.{◌≢◌, ◌<◌, ℕ}
use Rattle.octant_code.specs.Points.{site_at}
use Rattle.scene_file.specs.Bodies.{sites_of}
use Rattle.scene_file.proofs.gathering.number_at.Given as goal

abbrev pub invariant-loop-i : goal.invariant-loop-i
invariant-loop-i l = (k : ℕ) → k < l.i → site_at (sites_of l.bodies) k ≢ l.at
