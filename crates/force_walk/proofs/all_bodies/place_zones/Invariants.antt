use Rattle.std.proofs.Common.{◌<◌, ◌≡◌, All, ℕ, get_or, map}
use Rattle.bh_model.specs.Pulls.{no_pull}
use Rattle.bh_model.specs.declared.pull.Pull.{Pull}
use Rattle.force_walk.specs.Placed.{ByPlace}
use Rattle.force_walk.proofs.all_bodies.place_zones.Given as goal

abbrev pub invariant-loop-w : goal.invariant-loop-w
invariant-loop-w l =
    (f : ℕ → Pull) (j : ℕ) (d : _) → ByPlace (λ z p. p.items ≡ map f z.items) l.zones l.lists → j < l.w
    → All (λ n. get_or l.all n no_pull ≡ f n) (get_or l.zones j d).items
