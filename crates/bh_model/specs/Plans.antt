-- How trees are built, and by which law bodies pull.
use Rattle.std.specs.Prelude.{ℕ, ◌≤◌}
use Rattle.bh_model.specs.Pulls.{PullLaw}
use Rattle.bh_model.specs.declared.plan.Builder.{Builder}

-- the builder, the number of workers, and the law
pub record TreePlan : Type 0 where
  pub builder : Builder
  pub workers : ℕ
  pub law : PullLaw

-- there are 1 to 64 workers
abbrev pub HasWorkers : ℕ → Type 0
HasWorkers workers = (1 ≤ workers) × (workers ≤ 64)
