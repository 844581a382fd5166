-- A step along one axis.
use Rattle.std.proofs.Common.{◌≡◌, ◌<◌, ◌≤◌, ◌^◌, ℕ, refl, arith, None}
use Rattle.std.specs.Prelude.{ℤ, pos, negsuc, neg_ℤ, ◌+ℤ◌, ◌≤ℤ◌}
use Rattle.std.proofs.lemmas.Bool.{le-ltb, lt-ltb}
use Rattle.std.proofs.lemmas.Int.{ints}
use Rattle.drift.specs.Motions.{along, coordinate}

-- a target that is a coordinate is reached
pub reached : (x : ℕ) (v w : ℤ) (n : ℕ) → w ≡ v → pos x +ℤ v ≡ pos n → n < 2 ^ 53 → (n, w) ≡ along x v
unfolding along
reached x v w n same is small = rw (same, is, lt-ltb n (2 ^ 53) small) refl

-- a number below 0, or from 2 ^ 53 on, is no coordinate
outside : (z : ℤ) → (pos 0 ≤ℤ z → pos (2 ^ 53) ≤ℤ z) → coordinate z ≡ None
outside (pos n) beyond =
    let far : pos (2 ^ 53) ≤ℤ pos n = beyond (omega (arith, ints)) in
    let least : 2 ^ 53 ≤ n = omega (arith, ints) in
    rw (le-ltb n (2 ^ 53) least) refl
outside (negsuc n) beyond = refl

-- at a target that is none the coordinate stays, and the velocity turns round
pub turned : (x : ℕ) (v w : ℤ) → w ≡ neg_ℤ v → (pos 0 ≤ℤ (pos x +ℤ v) → pos (2 ^ 53) ≤ℤ (pos x +ℤ v)) → (x, w) ≡ along x v
unfolding along
turned x v w back beyond = rw (back, outside (pos x +ℤ v) beyond) refl
