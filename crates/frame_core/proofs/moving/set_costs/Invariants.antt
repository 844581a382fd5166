use Rattle.std.proofs.Common.{◌≡◌, ◌<◌, ℕ, slice_index}
use Rattle.bh_model.specs.Pulls.{no_pull}
use Rattle.bh_model.specs.Zones.{cost_after}
use Rattle.std.specs.Prelude.{slice_index_or}
use Rattle.frame_core.proofs.moving.set_costs.Given as goal

-- the first costs are set
abbrev pub invariant-loop-n : goal.invariant-loop-n
invariant-loop-n l = (k : ℕ) → k < l.n → slice_index l.costs k ≡ cost_after (slice_index_or l.pulls k no_pull)
