-- More numbers than a size of which something is so: one of them, all of them under another word, and two where the size is 1.
use Rattle.std.proofs.Common.{ℕ, ◌≡◌, ◌≢◌, suc, refl, sym, subst, inl, inr, arith, List, [], ◌∷◌, length}
use Rattle.bh_model.specs.Bodies.{HasMoreThan, IsIn, NoneTwice}

-- one of them
pub record HasOne (IsIt : ℕ → Type 0) : Type 0 where
  pub one : ℕ
  pub one_is : IsIt one

-- two of them
pub record HasTwoOf (IsIt : ℕ → Type 0) : Type 0 where
  pub one : ℕ
  pub other : ℕ
  pub one_is : IsIt one
  pub other_is : IsIt other
  pub differ : one ≢ other

first_of_list : (IsIt : ℕ → Type 0) (size : ℕ) (xs : List ℕ) → length xs ≡ suc size → ((n : ℕ) → IsIn xs n → IsIt n) → HasOne IsIt
first_of_list IsIt size [] e h = absurd (omega arith)
first_of_list IsIt size (x ∷ xs) e h = record { one = x; one_is = h x (inl refl) }

-- of one of them it is so
pub one_of_more : {size : ℕ} {IsIt : ℕ → Type 0} → HasMoreThan size IsIt → HasOne IsIt
one_of_more {size = size} {IsIt = IsIt} h = first_of_list IsIt size h.them h.count h.each

two_of_list : (IsIt : ℕ → Type 0) (xs : List ℕ) → length xs ≡ 2 → NoneTwice xs → ((n : ℕ) → IsIn xs n → IsIt n) → HasTwoOf IsIt
two_of_list IsIt [] e d h = absurd (omega arith)
two_of_list IsIt (x ∷ []) e d h = absurd (omega arith)
two_of_list IsIt (x ∷ y ∷ xs) e d h = record { one = x; other = y; one_is = h x (inl refl); other_is = h y (inr (inl refl)); differ = λ s. d.0 (inl s) }

-- more than one are two
pub two_of_more : {IsIt : ℕ → Type 0} → HasMoreThan 1 IsIt → HasTwoOf IsIt
two_of_more {IsIt = IsIt} h = two_of_list IsIt h.them h.count h.once h.each

-- two are more than one
pub more_of_two : {IsIt : ℕ → Type 0} (one other : ℕ) → IsIt one → IsIt other → one ≢ other → HasMoreThan 1 IsIt
more_of_two {IsIt = IsIt} one other p q d = record {
  them = one ∷ other ∷ [];
  count = refl;
  once = ((λ i. elim i [ inl e ↦ d e | inr j ↦ j ]), ((λ i. i), tt));
  each = λ n i. elim i [ inl e ↦ subst IsIt (sym e) p | inr j ↦ elim j [ inl e ↦ subst IsIt (sym e) q | inr k ↦ absurd k ] ];
}

-- what follows is so of as many
pub more_so : {size : ℕ} {IsIt IsOther : ℕ → Type 0} → ((n : ℕ) → IsIt n → IsOther n) → HasMoreThan size IsIt → HasMoreThan size IsOther
more_so f h = record { them = h.them; count = h.count; once = h.once; each = λ n i. f n (h.each n i) }
