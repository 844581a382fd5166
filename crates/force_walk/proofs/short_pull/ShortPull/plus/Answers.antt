use Rattle.std.proofs.Common.{◌≡◌, ◌-◌, ◌^◌, ℤ, ◌+ℤ◌, arith, refl}
use Rattle.std.proofs.lemmas.Int.{ints}
use Rattle.std.specs.Int.{w64}
use mir.Val.{of_z, to_z}
use Rattle.bh_model.specs.Pulls.{IsWithin}
use Rattle.bh_model.proofs.Terms.{same_pull}
use Rattle.force_walk.proofs.short_pull.ShortPull.plus.Goals as goal

-- a sum that fits its word
sum_fits : (a b : ℤ) → IsWithin (2 ^ 63 - 2 ^ 32) a → IsWithin (2 ^ 31) b → to_z w64 (of_z w64 (to_z w64 (of_z w64 a) +ℤ to_z w64 (of_z w64 b))) ≡ a +ℤ b
sum_fits a b p q = omega (arith, ints, p.low, p.high, q.low, q.high)

pub returns : goal.returns
returns c =
    same_pull _ _ _ _ _ _ _ _ (sum_fits _ _ c.requires.small.x c.requires.term_small.x) (sum_fits _ _ c.requires.small.y c.requires.term_small.y)
    (sum_fits _ _ c.requires.small.z c.requires.term_small.z) refl
