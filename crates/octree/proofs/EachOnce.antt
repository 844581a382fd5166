-- A row of numbers in another order has each of them once.
use Rattle.std.proofs.Common.{ℕ, ◌+◌, ◌<◌, ◌≡◌, ◌∙◌, refl, sym, ap, inl, inr, arith, eqb, List, [], ◌∷◌, ◌++◌, get_or, length, length-append}
use Rattle.std.specs.List.Sorted.{IsPermutation}
use Rattle.std.proofs.lemmas.Bool.{cases_lt, eqb-false}
use Rattle.std.proofs.Math.Seq.{get_or-append_seam}
use Rattle.std.proofs.lemmas.List.{get_or_append_left, get_or_default}
use Rattle.std.proofs.lemmas.List.Sorted.{All-permutation, Contains-permutation, length_permutation}
use Rattle.std.proofs.lemmas.Map.Keys.{IsDistinct-IsPermutation, IsDistinct-from_apart, apart_from_distinct}
use Rattle.bh_model.proofs.Equal.{not-eqb, same_or_not}
use Rattle.octree.specs.Ranks.{HasEachOnce}

-- the list is 0, 1, 2 and so on
pub record IsRow (xs : List ℕ) (count : ℕ) : Type 0 where
  pub many : length xs ≡ count
  pub each : (k d : ℕ) → k < count → get_or xs k d ≡ k

pub row_none : IsRow [] 0
row_none = record { many = refl; each = λ k d l. absurd (omega (arith, l)) }

-- one more number
pub row_more : (xs : List ℕ) (n x : ℕ) → IsRow xs n → x ≡ n → IsRow (xs ++ (x ∷ [])) (n + 1)
row_more xs n x h e = record {
  many = omega (arith, length-append xs (x ∷ []), h.many);
  each = λ k d l. elim (cases_lt k n) [
    | inl m ↦ get_or_append_left xs (x ∷ []) d k (omega (arith, m, h.many)) ∙ h.each k d m
    | inr g ↦ ap (λ j. get_or (xs ++ (x ∷ [])) j d) (let last : k ≡ length xs = omega (arith, l, g, h.many) in last) ∙ get_or-append_seam xs x [] d ∙ e
        ∙ (let last : n ≡ k = omega (arith, l, g) in last)
  ];
}

eqb-flips : (a b : ℕ) → eqb a b ≡ eqb b a
eqb-flips a b = elim (same_or_not a b) [
  | inl e ↦ ap (eqb a) (sym e) ∙ ap (λ y. eqb y a) e
  | inr d ↦ not-eqb a b d ∙ sym (not-eqb b a (λ e. d (sym e)))
]

-- a row in another order
pub each_once : (count : ℕ) (xs ys : List ℕ) → IsRow xs count → IsPermutation xs ys → HasEachOnce count ys
each_once count xs ys row p =
    let many : length ys ≡ count = length_permutation xs ys p ∙ row.many in
    let distinct = IsDistinct-IsPermutation eqb eqb-flips xs ys p
    (IsDistinct-from_apart eqb xs (λ i j d l m. not-eqb (get_or xs i d) (get_or xs j d)
    (λ e. omega (arith, e, row.each i d (omega (arith, l, m, row.many)), row.each j d (omega (arith, m, row.many)))))) in
    record {
      many = many;
      below = λ k l. All-permutation (λ n. n < count) xs ys p (λ j d m. omega (arith, row.each j d (omega (arith, m, row.many)), m, row.many)) k 0
          (omega (arith, l, many));
      once = λ i j l m. eqb-false (get_or ys i 0) (get_or ys j 0) (apart_from_distinct eqb ys i j 0 distinct l (omega (arith, m, many)));
      all = λ n l.
          let f = Contains-permutation xs ys n p (n, omega (arith, l, row.many), row.each n n l) in
          (f.0, omega (arith, f.1, many), get_or_default ys f.0 0 n f.1 ∙ f.2);
    }
