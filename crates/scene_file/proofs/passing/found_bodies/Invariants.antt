use Rattle.std.proofs.Common.{◌<◌, ℕ, nat_eq}
use Rattle.std.specs.HashMap as hash
use Rattle.scene_file.specs.Passing.{IsFound}
use Rattle.scene_file.proofs.passing.found_bodies.Given as goal

abbrev pub invariant-loop-i : goal.invariant-loop-i
invariant-loop-i l = (j : ℕ) → j < l.i → IsFound (λ q. hash.get nat_eq l.numbers q) l.bodies j
