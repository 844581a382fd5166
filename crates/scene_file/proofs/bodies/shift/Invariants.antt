use Rattle.std.proofs.Common.{◌≡◌, length, take}
use Rattle.scene_file.specs.Moves.{shifted}
use Rattle.scene_file.proofs.bodies.shift.Given as goal

abbrev pub invariant-loop-step : goal.invariant-loop-step
invariant-loop-step l = (l.bodies ≡ shifted (take l.step-index l.moves) l.fn.bodies) × (length l.bodies ≡ length l.fn.bodies)
