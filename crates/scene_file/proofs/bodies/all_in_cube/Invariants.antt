use Rattle.std.proofs.Common.{◌<◌, ℕ}
use Rattle.octant_code.specs.Space.{IsInCube}
use Rattle.scene_file.specs.Moves.{move_at}
use Rattle.scene_file.proofs.bodies.all_in_cube.Given as goal

abbrev pub invariant-loop-step : goal.invariant-loop-step
invariant-loop-step l = (k : ℕ) → k < l.step-index → IsInCube (move_at l.moves k).to
