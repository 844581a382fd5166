-- What the options of a command line choose.
use Rattle.std.specs.Prelude.{ℕ, ◌≤◌}
use Rattle.bh_model.specs.Plans.{TreePlan}
use Rattle.octant_code.specs.declared.limits.TheConstants.{MOST_BODIES}
use Rattle.nbody_options.specs.declared.options.Command.{Command}
use Rattle.nbody_options.specs.declared.options.Made.{Made}
use Rattle.nbody_options.specs.declared.options.ProbeChoice.{ProbeChoice}

-- the choices of all options
pub record Choices : Type 0 where
  pub command : Command
  pub plan : TreePlan
  pub steps : ℕ
  pub probe : ProbeChoice
  pub made : Made

-- there are 1 to 10,000 steps, and at most 65,536 bodies are made
pub record AreChoices (steps : ℕ) (made : Made) : Type 0 where
  pub steps_are_positive : 1 ≤ steps
  pub steps_fit : steps ≤ 10000
  pub count_fits : made.count ≤ MOST_BODIES
