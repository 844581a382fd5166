-- The square root is the one number that has its two bounds.
use Rattle.std.proofs.Common.{◌≡◌, ℕ, zero, suc, ◌+◌, ◌-◌, ◌*◌, ◌<◌, ◌≤◌, inl, inr, sym, subst, arith}
use Rattle.std.proofs.lemmas.Nat.{mul-le}
use Rattle.std.proofs.lemmas.Bool.{cases_lt}
use Rattle.std.proofs.lemmas.Bool.Decides.{nat_tests}
use Rattle.octant_code.specs.Numbers.{root_below, root}

-- a smaller square has a smaller root
lt_of_square : (a b : ℕ) → a * a < b * b → a < b
lt_of_square a b h = elim (cases_lt a b) [ inl lt ↦ lt | inr ge ↦ absurd (omega (arith, mul-le b b a a ge ge)) ]

-- no number is above its square
pub square_ge : (n : ℕ) → n ≤ n * n
square_ge zero = omega arith
square_ge (suc n) = omega arith

root_below-is : (n r k : ℕ) → r * r ≤ n → n < (r + 1) * (r + 1) → r ≤ k → root_below n k ≡ r
unfolding root_below
root_below-is n r zero le lt h = omega arith
root_below-is n r (suc k) le lt h =
    elim (cases_lt n (suc k * suc k)) [
      | inl above ↦
          let less : r < suc k = lt_of_square r (suc k) (omega arith) in
          let here = root_below-is n r k le lt (omega arith) in
          grind (arith, nat_tests)
      | inr within ↦
          let less : suc k < r + 1 = lt_of_square (suc k) (r + 1) (omega arith) in
          let same : suc k ≡ r = omega arith in
          grind (arith, nat_tests)
    ]

-- the root is the number whose square is at most n while that of the next is above
pub root-is : (n r : ℕ) → r * r ≤ n → n < (r + 1) * (r + 1) → r ≡ root n
unfolding root
root-is n r le lt = sym (root_below-is n r n le lt (omega (arith, square_ge r)))

-- the root by the two tests of a guess
pub root-tested : (n r : ℕ) → r * r ≤ n → n - r * r ≤ 2 * r → r ≡ root n
root-tested n r le near = root-is n r le (omega arith)

root_below-next : (n k : ℕ) → n < (k + 1) * (k + 1) → n < (root_below n k + 1) * (root_below n k + 1)
unfolding root_below
root_below-next n zero h = h
root_below-next n (suc k) h =
    elim (cases_lt n (suc k * suc k)) [
      | inl above ↦ let r = root_below-next n k (omega arith) in grind (arith, nat_tests)
      | inr within ↦ grind (arith, nat_tests)
    ]

-- the square of the number after the root is above n
pub root-next : (n : ℕ) → n < (root n + 1) * (root n + 1)
unfolding root
root-next n = root_below-next n n (omega (arith, square_ge n))

-- the root of a positive number is positive
pub root-positive : (n : ℕ) → 0 < n → 0 < root n
root-positive n h =
    elim (cases_lt 0 (root n)) [
      | inl p ↦ p
      | inr z ↦ (let e : root n ≡ 0 = omega arith in
          let P : ℕ → Type 0 = λ r. n < (r + 1) * (r + 1) in
          absurd (omega (arith, subst P e (root-next n))))
    ]
