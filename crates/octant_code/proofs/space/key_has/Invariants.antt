use Rattle.std.proofs.Common.{◌≡◌, ◌<◌, ℕ}
use Rattle.octant_code.specs.Space.{key_of}
use Rattle.octant_code.proofs.space.key_has.Given as goal

abbrev pub invariant-loop-i : goal.invariant-loop-i
invariant-loop-i l = (l.here ≡ key_of l.p l.i) × ((k : ℕ) → k < l.i → l.key ≡ key_of l.p k → ⊥)
