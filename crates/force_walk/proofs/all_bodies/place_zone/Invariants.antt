use Rattle.std.proofs.Common.{◌≡◌, ℕ, map}
use Rattle.bh_model.specs.declared.pull.Pull.{Pull}
use Rattle.force_walk.proofs.Placements.{ArePut}
use Rattle.force_walk.proofs.all_bodies.place_zone.Given as goal

abbrev pub invariant-loop-k : goal.invariant-loop-k
invariant-loop-k l = (f : ℕ → Pull) → l.pulls ≡ map f l.zone → ArePut f l.initial.all l.all l.zone l.k
