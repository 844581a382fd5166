use Rattle.std.proofs.Common.{◌≡◌, ℕ, All, drop}
use Rattle.tree_passes.specs.Counting.{sum_of, times}
use Rattle.shared_tree.specs.Seen.{IsOf}
use Rattle.local_build.proofs.steps.deal_counted.Given as goal

abbrev pub invariant-loop-share : goal.invariant-loop-share
invariant-loop-share l =
    All (λ c. IsOf c.pass l.tree × (c.pass.todo ≡ c.share.now)) l.passes.items × IsOf l.pass l.tree
    × ((x : ℕ) → times x l.pass.todo ≡ sum_of (λ s. times x s.items) (drop l.share-index l.shares))
