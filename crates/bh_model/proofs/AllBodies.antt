-- The total of a quantity over the canonical octree is at most its sum over the bodies of the list.
use Rattle.std.proofs.Common.{◌≡◌, ◌≤◌, ◌<◌, ◌+◌, ◌*◌, ℕ, zero, suc, List, [], ◌∷◌, inl, inr, refl, ap, sym, subst, arith, sum_by, length, get_or, eqb}
use Rattle.std.proofs.Common.{not, true, false}
use Rattle.std.specs.List.{filter}
use Rattle.std.proofs.lemmas.Bool.{cases_Bool, eqb-true, eqb-false}
use Rattle.std.proofs.lemmas.List.Sums.{sum_by-cons, sum_by_push}
use Rattle.octant_code.specs.Space.{Site}
use Rattle.bh_model.specs.Bodies.{IsIn, NoneTwice, numbers}
use Rattle.bh_model.specs.Trees.{octree, order}
use Rattle.bh_model.specs.Moments.{total}
use Rattle.bh_model.proofs.Equal.{not-eqb}
use Rattle.bh_model.proofs.Lists.{filter-keeps, none_twice-filter}
use Rattle.bh_model.proofs.Orders.{from_list, order_has_none_twice}
use Rattle.bh_model.proofs.Totals.{sum_upto, total-order}

-- leaving out a number that is no member changes no sum
sum_without : (q : ℕ → ℕ) (m : ℕ) (xs : List ℕ) → (IsIn xs m → ⊥) → sum_by q (filter (λ n. not (eqb n m)) xs) ≡ sum_by q xs
sum_without q m [] h = refl
sum_without q m (x ∷ xs) h =
    let keep : not (eqb x m) ≡ true = ap not (not-eqb x m (λ f. h (inl (sym f)))) in
    rw keep (omega (arith, sum_by-cons q x (filter (λ n. not (eqb n m)) xs), sum_by-cons q x xs, sum_without q m xs (λ i. h (inr i))))

-- a sum is a member's value and the sum of the others
sum_with : (q : ℕ → ℕ) (m : ℕ) (xs : List ℕ) → IsIn xs m → NoneTwice xs → sum_by q xs ≡ q m + sum_by q (filter (λ n. not (eqb n m)) xs)
sum_with q m [] i once = absurd i
sum_with q m (x ∷ xs) i once =
    elim (cases_Bool (eqb x m)) [
      | inl e ↦
          let drops : not (eqb x m) ≡ false = ap not e in
          let same : x ≡ m = eqb-true x m e in
          rw drops (omega (arith, ap q same, sum_by-cons q x xs, sum_without q m xs (λ j. once.0 (subst (λ (y : ℕ). IsIn xs y) (sym same) j))))
      | inr e ↦
          let keep : not (eqb x m) ≡ true = ap not e in
          let there : IsIn xs m = elim i [ inl f ↦ absurd (eqb-false x m e (sym f)) | inr j ↦ j ] in
          rw keep (omega (arith, sum_by-cons q x xs, sum_by-cons q x (filter (λ n. not (eqb n m)) xs), sum_with q m xs there once.1))
    ]

-- a list without repeats sums to no more than one without repeats that has all its members
pub sum_of_some : (q : ℕ → ℕ) (xs ys : List ℕ) → NoneTwice xs → NoneTwice ys → ((n : ℕ) → IsIn xs n → IsIn ys n) → sum_by q xs ≤ sum_by q ys
sum_of_some q [] ys once other within = omega arith
sum_of_some q (x ∷ xs) ys once other within =
    let rest : List ℕ = filter (λ n. not (eqb n x)) ys in
    let less = sum_of_some q xs rest once.1 (none_twice-filter (λ n. not (eqb n x)) ys other)
    (λ n i. filter-keeps (λ y. not (eqb y x)) ys n (within n (inr i)) (ap not (not-eqb n x (λ e. once.0 (subst (λ (y : ℕ). IsIn xs y) e i))))) in
    omega (arith, sum_by-cons q x xs, sum_with q x ys (within x (inl refl)) other, less)

-- two lists of the same members without repeats have one sum
pub sum_of_same : (q : ℕ → ℕ) (xs ys : List ℕ) → NoneTwice xs → NoneTwice ys → ((n : ℕ) → IsIn xs n → IsIn ys n) → ((n : ℕ) → IsIn ys n → IsIn xs n)
    → sum_by q xs ≡ sum_by q ys
sum_of_same q xs ys once other there back = omega (arith, sum_of_some q xs ys once other there, sum_of_some q ys xs other once back)

-- a list is as long as its sum of ones
ones : (xs : List ℕ) → sum_by (λ _. 1) xs ≡ length xs
ones [] = refl
ones (x ∷ xs) = omega (arith, sum_by-cons (λ _. 1) x xs, ones xs)

-- two lists of the same members without repeats are equally long
pub same_length : (xs ys : List ℕ) → NoneTwice xs → NoneTwice ys → ((n : ℕ) → IsIn xs n → IsIn ys n) → ((n : ℕ) → IsIn ys n → IsIn xs n)
    → length xs ≡ length ys
same_length xs ys once other there back = omega (arith, ones xs, sum_of_same (λ _. 1) xs ys once other there back, ones ys)

-- the total over the canonical octree is at most the sum over the bodies of the list
pub octree_total_le : (q : ℕ → ℕ) (site : ℕ → Site) (bodies : List ℕ) → NoneTwice bodies → total q (octree site bodies) ≤ sum_by q bodies
octree_total_le q site bodies once =
    omega (
      arith,
      total-order q (octree site bodies),
      sum_of_some q (order (octree site bodies)) bodies (order_has_none_twice site bodies) once
          (λ n i. from_list site 21 0 bodies n i),
    )

-- the sum over the numbers below a number
pub sum_numbers : (q : ℕ → ℕ) (n : ℕ) → sum_by q (numbers n) ≡ sum_upto q n
unfolding numbers sum_upto
sum_numbers q zero = refl
sum_numbers q (suc n) = omega (arith, sum_by_push q (numbers n) n, sum_numbers q n)

-- the first value of a sum and the others
sum_upto-first : (q : ℕ → ℕ) (n : ℕ) → sum_upto q (suc n) ≡ q 0 + sum_upto (λ k. q (suc k)) n
unfolding sum_upto
sum_upto-first q zero = omega arith
sum_upto-first q (suc n) = omega (arith, sum_upto-first q n)

-- the sum over the places of a list is the sum over the list
pub sum_places : {X : Type 0} (f : X → ℕ) (d : X) (xs : List X) → sum_upto (λ n. f (get_or xs n d)) (length xs) ≡ sum_by f xs
unfolding sum_upto
sum_places f d [] = refl
sum_places f d (x ∷ xs) = omega (arith, sum_upto-first (λ n. f (get_or (x ∷ xs) n d)) (length xs), sum_places f d xs, sum_by-cons f x xs)

-- a sum of values each of which is at most some value
pub sum_upto-most : (q : ℕ → ℕ) (most n : ℕ) → ((k : ℕ) → k < n → q k ≤ most) → sum_upto q n ≤ most * n
unfolding sum_upto
sum_upto-most q most zero each = omega arith
sum_upto-most q most (suc n) each = omega (arith, sum_upto-most q most n (λ k l. each k (omega arith)), each n (omega arith))
