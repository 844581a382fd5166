-- Lists of a value for each of the numbers below a number.
use Rattle.std.proofs.Common.{◌≡◌, ◌<◌, ℕ, zero, suc, List, [], ◌∷◌, ◌++◌, length, get_or, map, refl, sym, ◌∙◌, ap, arith, inl, inr, Contains}
use Rattle.std.proofs.lemmas.List.{get_or-map, length-map}
use Rattle.bh_model.specs.Bodies.{IsIn, numbers}
use Rattle.bh_model.proofs.Standing.{length_numbers, number_at_place}

-- one number more
pub numbers-suc : (n : ℕ) → numbers (suc n) ≡ numbers n ++ (n ∷ [])
unfolding numbers
numbers-suc n = refl

-- and none
pub numbers-none : numbers 0 ≡ []
unfolding numbers
numbers-none = refl

-- the value of a number
pub value_at_place : {X : Type 0} (f : ℕ → X) (n k : ℕ) (d : X) → k < n → get_or (map f (numbers n)) k d ≡ f k
value_at_place f n k d l = get_or-map f (numbers n) k 0 d (omega (arith, length_numbers n)) ∙ ap f (number_at_place n k 0 l)

-- there is one for each
pub length-values : {X : Type 0} (f : ℕ → X) (n : ℕ) → length (map f (numbers n)) ≡ n
length-values f n = length-map (numbers n) f ∙ length_numbers n

-- what stands at a place of a list is a member
pub in_at : (xs : List ℕ) (k d : ℕ) → k < length xs → IsIn xs (get_or xs k d)
in_at [] k d l = absurd (omega arith)
in_at (x ∷ xs) zero d l = inl refl
in_at (x ∷ xs) (suc k) d l = inr (in_at xs k d (omega arith))

-- a member stands at a place of the list
pub contains_member : (xs : List ℕ) (n : ℕ) → IsIn xs n → Contains xs n
contains_member [] n i = absurd i
contains_member (x ∷ xs) n (inl e) = (0, omega arith, sym e)
contains_member (x ∷ xs) n (inr i) = let p = contains_member xs n i in (suc p.0, omega (arith, p.1), p.2)
