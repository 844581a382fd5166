use Rattle.std.specs.Prelude.{◌≤◌, length, take}
use Rattle.std.proofs.Common.{◌≡◌}
use Rattle.frame_core.specs.Engines.{WithTree}
use Rattle.scene_file.specs.Moves.{after_passes}
use Rattle.step_times.proofs.time_passes.Given as goal

abbrev pub invariant-loop-i : goal.invariant-loop-i
invariant-loop-i g l =
    (l.engine.stage ≡ WithTree) × (l.engine.plan.builder ≡ l.plan-inside.builder) × (l.engine.bodies ≡ after_passes (take l.i l.passes) l.fn.bodies)
