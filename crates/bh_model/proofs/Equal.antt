-- Two numbers are equal or not.
use Rattle.std.proofs.Common.{ℕ, ◌≡◌, ◌≢◌, ◌⊎◌, inl, inr, arith, false, eqb}
use Rattle.std.proofs.lemmas.Bool.{cases_lt, eqb-true, false_from_ne_true}

-- two numbers are equal or not
pub same_or_not : (a b : ℕ) → (a ≡ b) ⊎ (a ≢ b)
same_or_not a b = elim (cases_lt a b) [
  | inl r ↦ inr (λ e. omega arith)
  | inr r ↦ elim (cases_lt b a) [ inl q ↦ inr (λ e. omega arith) | inr q ↦ inl (omega arith) ]
]

-- the test of two numbers that differ is false
pub not-eqb : (a b : ℕ) → a ≢ b → eqb a b ≡ false
not-eqb a b h = false_from_ne_true (eqb a b) (λ e. h (eqb-true a b e))
