use Rattle.std.proofs.Common.{◌≡◌}
use Rattle.frame_core.specs.Engines.{WithoutTree}
use Rattle.step_times.proofs.time_run.Given as goal

abbrev pub invariant-loop : goal.invariant-loop
invariant-loop g l = (l.engine.stage ≡ WithoutTree) × (l.engine.plan.builder ≡ l.plan-inside.builder)
