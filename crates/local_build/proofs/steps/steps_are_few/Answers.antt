use Rattle.std.proofs.Common.{◌≡◌, ◌+◌, ℕ, List, [], ◌∷◌, Vec, Global, length, map, refl, sym, subst, ◌∙◌, ap}
use Rattle.std.specs.Arc.{arc_value}
use Rattle.tree_passes.specs.Counting.{sum_of, times}
use Rattle.build_workers.specs.Shares.{AreShares}
use Rattle.build_workers.proofs.Laws.{all_parted}
use Rattle.local_build.proofs.steps.steps_are_few.Goals as goal

-- how often a number stands in all shares
in_shares : (x : ℕ) (shares : List (Vec ℕ Global)) → sum_of (times x) (map (λ s. s.items) shares) ≡ sum_of (λ s. times x s.items) shares
in_shares x [] = refl
in_shares x (s ∷ ss) = ap (λ z. times x s.items + z) (in_shares x ss)

pub deal_counted-requires-clause-todo : goal.deal_counted-requires-clause-todo
deal_counted-requires-clause-todo g c = λ x.
    let count = length (arc_value c.in_ok-points.points) in
    let shares = map (λ s. s.items) c.in_ok-shares.shares.items in
    let counted : c.len.result ≡ count = c.len.ensures.value ∙ ap length c.deref.ensures in
    all_parted count shares c.in_ok-tree.pass.todo (subst (λ (n : ℕ). AreShares n shares) counted c.in_ok-shares.ensures.shares) c.in_ok-tree.ensures.todo x
    ∙ in_shares x c.in_ok-shares.shares.items
    ∙ ap (λ l. sum_of (λ s. times x s.items) l) (sym c.deref-2.ensures.value)
