-- A quotient by a rate that is a little too small: the rate counts parts of 2^-32, and up to two of them may be missing.
use Rattle.std.proofs.Common.{◌≡◌, ℕ, zero, suc, ◌+◌, ◌-◌, ◌*◌, ◌/◌, ◌%◌, ◌<◌, ◌≤◌, ◌^◌, inl, inr, ℤ, pos, neg_ℤ, ap, ◌∙◌, sym, arith}
use Rattle.std.proofs.lemmas.Nat.{mul-le, div-mul-add, div-add-mod'}
use Rattle.std.proofs.lemmas.Bool.{cases_lt}
use Rattle.std.proofs.Math.Nat.{mul_right_comm, mul-zero, zero-div}
use Rattle.std.specs.Int.{w64, abs_diff}
use mir.Val.{to_z, of_z}
use Rattle.octant_code.specs.Space.{Site, squared_distance}
use Rattle.std.proofs.lemmas.Int.{ints}
use Rattle.octant_code.specs.Numbers.{root}
use Rattle.octant_code.proofs.Distances.{squared_distance-parts}
use Rattle.octant_code.proofs.Roots.{root-is}
use Rattle.bh_model.specs.Pulls.{IsWithin, PullLaw, component, term}
use Rattle.force_walk.specs.Short.{IsRate}
use Rattle.bh_model.proofs.Terms.{component-up, component-down, one_pull, term-from}

-- a quotient by its two bounds
quotient-is : (p d q : ℕ) → q * d ≤ p → p < q * d + d → q ≡ p / d
quotient-is p d q low high =
    let e : q * d + (p - q * d) ≡ p = omega arith in
    sym (div-mul-add q d (p - q * d) (omega arith)) ∙ ap (λ n. n / d) e

-- a factor that both sides have is left out
pub factor-out : (a b c : ℕ) → a * c < b * c → a < b
factor-out a b c h = elim (cases_lt a b) [ inl lt ↦ lt | inr ge ↦ absurd (omega (arith, mul-le b c a c ge (omega arith))) ]

-- what is at most the quotient
share-low : (scale divisor rate gap q : ℕ) → rate * divisor ≤ scale * 2 ^ 32 → q * 2 ^ 32 ≤ rate * gap → q * divisor ≤ scale * gap
share-low scale divisor rate gap q low share =
    omega (
      arith,
      mul-le (q * 2 ^ 32) divisor (rate * gap) divisor share (omega arith),
      mul-le (rate * divisor) gap (scale * 2 ^ 32) gap low (omega arith),
      mul_right_comm rate gap divisor,
    )

-- and what is above it
share-high : (scale divisor rate gap q : ℕ) → scale * 2 ^ 32 < (rate + 2) * divisor → (rate + 2) * gap ≤ (q + 1) * 2 ^ 32 → 0 < gap
    → scale * gap < (q + 1) * divisor
share-high scale divisor rate gap q high share some =
    omega (
      arith,
      mul-le ((rate + 2) * gap) divisor ((q + 1) * 2 ^ 32) divisor share (omega arith),
      mul-le (scale * 2 ^ 32 + 1) gap ((rate + 2) * divisor) gap (omega arith) (omega arith),
      mul_right_comm (rate + 2) gap divisor,
    )

-- the share of the rate is the quotient
pub share-is : (scale divisor rate gap : ℕ) → IsRate scale divisor rate → rate * gap % 2 ^ 32 + 2 * gap ≤ 2 ^ 32
    → rate * gap / 2 ^ 32 ≡ scale * gap / divisor
share-is scale divisor rate zero is sure =
    ap (λ n. n / 2 ^ 32) (mul-zero rate) ∙ sym (ap (λ n. n / divisor) (mul-zero scale) ∙ zero-div divisor)
share-is scale divisor rate (suc gap) is sure =
    let q : ℕ = rate * suc gap / 2 ^ 32 in
    let split : q * 2 ^ 32 + rate * suc gap % 2 ^ 32 ≡ rate * suc gap = div-add-mod' (rate * suc gap) (2 ^ 32) in
    quotient-is (scale * suc gap) divisor q (share-low scale divisor rate (suc gap) q is.low (omega arith))
    (omega (arith, share-high scale divisor rate (suc gap) q (omega (arith, is.high)) (omega arith) (omega arith)))

-- a share upwards is the coordinate of a term
pub component-shared-up : (scale from to divisor rate gap : ℕ) → from ≤ to → gap ≡ abs_diff from to → IsRate scale divisor rate
    → rate * gap % 2 ^ 32 + 2 * gap ≤ 2 ^ 32 → pos (rate * gap / 2 ^ 32) ≡ component scale from to divisor
component-shared-up scale from to divisor rate gap up is_gap is sure =
    let g : gap ≡ to - from = omega arith in
    ap pos (share-is scale divisor rate gap is sure) ∙ ap (λ n. pos (scale * n / divisor)) g ∙ sym (component-up scale from to divisor up)

-- and downwards
pub component-shared-down : (scale from to divisor rate gap : ℕ) → to ≤ from → gap ≡ abs_diff from to → IsRate scale divisor rate
    → rate * gap % 2 ^ 32 + 2 * gap ≤ 2 ^ 32 → neg_ℤ (pos (rate * gap / 2 ^ 32)) ≡ component scale from to divisor
component-shared-down scale from to divisor rate gap down is_gap is sure =
    let g : gap ≡ from - to = omega arith in
    ap (λ n. neg_ℤ (pos n)) (share-is scale divisor rate gap is sure) ∙ ap (λ n. neg_ℤ (pos (scale * n / divisor))) g
    ∙ sym (component-down scale from to divisor down)

-- a number with a short root
pub short_fits : (n r : ℕ) → r < 2 ^ 21 → n < (r + 1) * (r + 1) → n < 2 ^ 42
short_fits n r short next = omega (arith, mul-le (r + 1) (r + 1) (2 ^ 21) (2 ^ 21) (omega arith) (omega arith))

-- no gap is longer than the root
gap-below : (n r gap : ℕ) → gap * gap ≤ n → n < (r + 1) * (r + 1) → gap ≤ r
gap-below n r gap low next =
    elim (cases_lt r gap) [ inl longer ↦ absurd (omega (arith, mul-le (r + 1) (r + 1) gap gap (omega arith) (omega arith))) | inr le ↦ le ]

-- products of a rate and the gaps along all three axes are short
pub record ProductsFit (rate : ℕ) (s t : Site) : Type 0 where
  pub x : rate * abs_diff s.x t.x < 2 ^ 63
  pub y : rate * abs_diff s.y t.y < 2 ^ 63
  pub z : rate * abs_diff s.z t.z < 2 ^ 63

-- where that of the rate and the root is
pub products_fit : (scale r2 r rate : ℕ) (s t : Site) → IsRate scale (r2 * r) rate → scale * 2 ^ 32 < r2 * 2 ^ 63 → squared_distance s t ≤ r2
    → r2 < (r + 1) * (r + 1) → ProductsFit rate s t
products_fit scale r2 r rate s t is short near next =
    let parts = squared_distance-parts s t in
    let most : rate * r < 2 ^ 63 = factor-out (rate * r) (2 ^ 63) r2 (omega (arith, is.low, mul_right_comm rate r r2)) in
    let fits : (gap : ℕ) → gap * gap ≤ squared_distance s t → rate * gap < 2 ^ 63 =
    λ gap within. omega (arith, mul-le rate gap rate r (omega arith) (gap-below r2 r gap (omega (arith, within, near)) next)) in
    record {
      x = fits (abs_diff s.x t.x) (omega (arith, parts));
      y = fits (abs_diff s.y t.y) (omega (arith, parts));
      z = fits (abs_diff s.z t.z) (omega (arith, parts));
    }

-- a distance of points as they are seen
pub seen_distance : (d2 : ℕ) (from s to t : Site) → from ≡ s → to ≡ t → d2 ≡ squared_distance s t → d2 ≡ squared_distance from to
seen_distance d2 from s to t from_is to_is d2_is =
    d2_is ∙ ap (λ k. squared_distance k t) (sym from_is) ∙ ap (λ k. squared_distance from k) (sym to_is)

-- a term from its three coordinates
pub one-term : (law : PullLaw) (mass : ℕ) (from s to t : Site) (scale d2 r2 r divisor : ℕ) (x y z : ℤ) → from ≡ s → to ≡ t → scale ≡ law.g * mass
    → d2 ≡ squared_distance s t → r2 ≡ d2 + law.eps2 → r ≡ root r2 → divisor ≡ r2 * r
    → x ≡ component scale from.x to.x divisor → y ≡ component scale from.y to.y divisor → z ≡ component scale from.z to.z divisor
    → one_pull x y z ≡ term law mass s t
one-term law mass from s to t scale d2 r2 r divisor x y z from_is to_is scale_is d2_is r2_is r_is divisor_is p q v =
    let start = seen_distance d2 from s to t from_is to_is d2_is in
    term-from law mass from to scale r2 r x y z scale_is (r2_is ∙ ap (λ k. k + law.eps2) start) r_is
    (p ∙ ap (λ d. component scale from.x to.x d) divisor_is) (q ∙ ap (λ d. component scale from.y to.y d) divisor_is)
    (v ∙ ap (λ d. component scale from.z to.z d) divisor_is)
    ∙ ap (λ k. term law mass k to) from_is ∙ ap (λ k. term law mass s k) to_is

-- a short share is kept in its word
pub short_stays : (z : ℤ) → IsWithin (2 ^ 31) z → to_z w64 (of_z w64 z) ≡ z
short_stays z h = omega (arith, ints, h.low, h.high)

-- a guess that was tested is the root
pub tested_root : (n r : ℕ) → (r * r ≤ n) × (n < (r + 1) * (r + 1)) → r ≡ root n
tested_root n r h = root-is n r h.0 h.1
