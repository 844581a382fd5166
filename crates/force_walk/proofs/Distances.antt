-- From which squared distance on a cube is far.
use Rattle.std.proofs.Common.{ℕ, ◌+◌, ◌*◌, ◌/◌, ◌%◌, ◌^◌, ◌<◌, ◌≤◌, ◌≡◌, ◌≢◌, true, false, not, ltb, sym, ap, ◌∙◌, subst, arith, inl, inr}
use Rattle.std.proofs.lemmas.Bool.{cases_lt, le-ltb, lt-ltb}
use Rattle.std.proofs.Math.Nat.{div-add-mod, mul-le-mul_left}
use Rattle.std.proofs.lemmas.Nat.{mul-le, one_shl, pow-add}
use Rattle.bh_model.specs.Pulls.{PullLaw}
use Rattle.force_walk.specs.Least.{IsLeast}

-- what is at most the quotient is not far
near_test : (s y d : ℕ) → 0 < y → d ≤ s / y → ltb s (y * d) ≡ false
near_test s y d positive h = le-ltb s (y * d) (omega (arith, div-add-mod s y, mul-le-mul_left y h))

-- what is above it is far
far_test : (s y d : ℕ) → 0 < y → s / y < d → ltb s (y * d) ≡ true
far_test s y d positive h =
    let more : s / y + 1 ≤ d = omega arith in
    let next : y * (s / y + 1) ≤ y * d = mul-le-mul_left y more in
    lt-ltb s (y * d) (omega (arith, div-add-mod s y, next))

-- both tests of a distance say the same where the least is one more than the quotient
quotient_tells : (s y d : ℕ) → 0 < y → ltb d (s / y + 1) ≡ not (ltb s (y * d))
quotient_tells s y d positive =
    elim (cases_lt (s / y) d) [
      | inl far ↦ rw (far_test s y d positive far, le-ltb d (s / y + 1) (omega arith))
      | inr near ↦ rw (near_test s y d positive near, lt-ltb d (s / y + 1) (omega arith))
    ]

-- a cube beyond all distances
beyond_tells : (s y d most : ℕ) → 0 < y → most ≤ s / y → d < most → ltb d most ≡ not (ltb s (y * d))
beyond_tells s y d most positive high near = rw (near_test s y d positive (omega arith), lt-ltb d most near)

-- four to a power is the square of two to it
pub four_pow : (d : ℕ) → d ≤ 21 → (1 * 2 ^ (2 * d)) % 2 ^ 128 ≡ 2 ^ d * 2 ^ d
four_pow d h =
    let a : 2 * d ≡ d + d = omega arith in
    one_shl (2 * d) 128 (omega arith) ∙ ap (λ k. 2 ^ k) a ∙ pow-add 2 d d

square_positive : (t : ℕ) → t ≢ 0 → 0 < t * t
square_positive t h = mul-le 1 1 t t (omega arith) (omega arith)

pub least_near : (law : PullLaw) (down s near : ℕ) → law.theta_num ≢ 0 → s ≡ 2 ^ down * 2 ^ down * (law.theta_den * law.theta_den)
    → near ≡ s / (law.theta_num * law.theta_num) → IsLeast law down (near + 1)
least_near law down s near some e f = record {
  positive = omega arith;
  tells = λ d small.
      let P : ℕ → Type 0 = λ q. ltb d (q + 1) ≡ not (ltb (2 ^ down * 2 ^ down * (law.theta_den * law.theta_den)) (law.theta_num * law.theta_num * d)) in
      let Q : ℕ → Type 0 = λ w. ltb d (s / (law.theta_num * law.theta_num) + 1) ≡ not (ltb w (law.theta_num * law.theta_num * d)) in
      subst P (sym f) (subst Q e (quotient_tells s (law.theta_num * law.theta_num) d (square_positive law.theta_num some)));
}

pub least_beyond : (law : PullLaw) (down s near : ℕ) → law.theta_num ≢ 0 → s ≡ 2 ^ down * 2 ^ down * (law.theta_den * law.theta_den)
    → near ≡ s / (law.theta_num * law.theta_num) → 2 ^ 44 ≤ near → IsLeast law down (2 ^ 44)
least_beyond law down s near some e f high = record {
  positive = omega arith;
  tells = λ d small.
      let Q : ℕ → Type 0 = λ w. ltb d (2 ^ 44) ≡ not (ltb w (law.theta_num * law.theta_num * d)) in
      subst Q e (beyond_tells s (law.theta_num * law.theta_num) d (2 ^ 44) (square_positive law.theta_num some) (omega arith) small);
}

-- the square of a side times the square of the denominator, as the code has the numbers
pub coded_side : (law inside : PullLaw) (down den : ℕ) → down ≤ 21 → den ≡ inside.theta_den → inside ≡ law
    → (1 * 2 ^ (2 * down)) % 2 ^ 128 * (den * den) ≡ 2 ^ down * 2 ^ down * (law.theta_den * law.theta_den)
coded_side law inside down den shallow d same =
    ap (λ f. f * (den * den)) (four_pow down shallow) ∙ ap (λ q. 2 ^ down * 2 ^ down * (q * q)) (d ∙ ap (λ (l : PullLaw). l.theta_den) same)

-- and the quotient by the square of the numerator
pub coded_near : (law inside : PullLaw) (s num : ℕ) → num ≡ inside.theta_num → inside ≡ law → s / (num * num) ≡ s / (law.theta_num * law.theta_num)
coded_near law inside s num n same = ap (λ t. s / (t * t)) (n ∙ ap (λ (l : PullLaw). l.theta_num) same)
