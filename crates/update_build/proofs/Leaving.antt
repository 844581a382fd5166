-- The places of the words of bodies, share by share.
use Rattle.std.proofs.Common.{ℕ, ◌+◌, ◌<◌, ◌≡◌, ◌∙◌, ap, subst, sym, refl, inl, inr, arith, append_assoc, true, false, not, Result, Ok, Err, IfOk}
use Rattle.std.proofs.Common.{List, [], ◌∷◌, ◌++◌, get_or, length, take}
use Rattle.std.proofs.lemmas.Bool.{cases_lt}
use Rattle.std.proofs.lemmas.List.{append-nil, take_more}
use Rattle.std.proofs.lemmas.List.Elements.{filter-append}
use Rattle.octant_code.specs.Space.{Site}
use Rattle.tree_passes.proofs.Laws.{in_times, times-append, times_in}
use Rattle.tree_passes.specs.Counting.{all_of, times}
use Rattle.update_build.specs.Moving.{ArePlacesOf, IsLeafAt, keeps}
use Rattle.update_build.specs.Staying.{movers_in}

-- one body has that of its word
pub places_one : (words : List ℕ) (key n i : ℕ) → IsLeafAt words key n i → ArePlacesOf words (n ∷ []) (i ∷ [])
places_one words key n i leaf = record {
  named = λ j some.
      let e : j ≡ i = elim (times_in j (i ∷ []) some) [ inl e ↦ e | inr none ↦ absurd none ] in
      (n, key, in_times n (n ∷ []) (inl refl), subst (IsLeafAt words key n) (sym e) leaf);
  each = λ m some.
      let e : m ≡ n = elim (times_in m (n ∷ []) some) [ inl e ↦ e | inr none ↦ absurd none ] in
      (i, key, in_times i (i ∷ []) (inl refl), subst (λ (y : ℕ). IsLeafAt words key y i) (sym e) leaf);
}

-- and more bodies have theirs
pub places_joined : (words a b p q : List ℕ) → ArePlacesOf words a p → ArePlacesOf words b q → ArePlacesOf words (a ++ b) (p ++ q)
places_joined words a b p q f g = record {
  named = λ i some. elim (cases_lt 0 (times i p)) [
    | inl here ↦ let u = f.named i here in (u.0, u.1, omega (arith, u.2, times-append u.0 a b), u.3)
    | inr none ↦ let u = g.named i (omega (arith, times-append i p q)) in (u.0, u.1, omega (arith, u.2, times-append u.0 a b), u.3)
  ];
  each = λ n some. elim (cases_lt 0 (times n a)) [
    | inl here ↦ let u = f.each n here in (u.0, u.1, omega (arith, u.2, times-append u.0 p q), u.3)
    | inr none ↦ let u = g.each n (omega (arith, times-append n a b)) in (u.0, u.1, omega (arith, u.2, times-append u.0 p q), u.3)
  ];
}

-- one list more
pub all_of_more : {A : Type 0} (f : A → List ℕ) (l : List A) (a : A) → all_of f (l ++ (a ∷ [])) ≡ all_of f l ++ f a
all_of_more f [] a = append-nil (f a)
all_of_more f (x ∷ xs) a = ap (λ y. f x ++ y) (all_of_more f xs a) ∙ sym (append_assoc (f x) (all_of f xs) (f a))

-- what was found in some shares and in one more
pub found_more : {M : Type 0} (items : M → List ℕ) (words : List ℕ) (ms ps ms' ps' : List M) (m p : M) → ms' ≡ ms ++ (m ∷ []) → ps' ≡ ps ++ (p ∷ [])
    → ArePlacesOf words (all_of items ms) (all_of items ps) → ArePlacesOf words (items m) (items p) → ArePlacesOf words (all_of items ms') (all_of items ps')
found_more items words ms ps ms' ps' m p more more' all own =
    subst (λ (z : List ℕ × List ℕ). ArePlacesOf words z.0 z.1)
    (λ i. (sym (ap (all_of items) more ∙ all_of_more items ms m) i, sym (ap (all_of items) more' ∙ all_of_more items ps p) i))
    (places_joined words (all_of items ms) (items m) (all_of items ps) (items p) all own)

pub found_shared : {M R E : Type 0} (items : M → List ℕ) (movers places : R → List M) (words : List ℕ) (result : Result R E) (ms ps : List M) (m p : M)
    → IfOk result (λ r. movers r ≡ ms ++ (m ∷ [])) → IfOk result (λ r. places r ≡ ps ++ (p ∷ [])) → ArePlacesOf words (all_of items ms) (all_of items ps)
    → ArePlacesOf words (items m) (items p) → IfOk result (λ r. ArePlacesOf words (all_of items (movers r)) (all_of items (places r)))
found_shared items movers places words (Ok r) ms ps m p more more' all own = found_more items words ms ps (movers r) (places r) m p more more' all own
found_shared items movers places words (Err e) ms ps m p more more' all own = tt

-- the lists up to a place, and the next
pub all_taken : {S : Type 0} (items : S → List ℕ) (lists : List S) (i : ℕ) (s : S) → i < length lists → s ≡ get_or lists i s
    → all_of items (take (i + 1) lists) ≡ all_of items (take i lists) ++ items s
all_taken items lists i s less is =
    ap (all_of items) (take_more lists i s less) ∙ all_of_more items (take i lists) (get_or lists i s)
    ∙ ap (λ z. all_of items (take i lists) ++ items z) (sym is)

-- the next member of a share stays or leaves
module _ (olds news : List Site) (share : List ℕ) (i d : ℕ) (less : i < length share) where
  split : movers_in olds news (take (i + 1) share) ≡ movers_in olds news (take i share) ++ movers_in olds news (get_or share i d ∷ [])
  split = ap (movers_in olds news) (take_more share i d less) ∙ filter-append (λ n. not (keeps olds news n)) (take i share) (get_or share i d ∷ [])

  pub member_stays : keeps olds news (get_or share i d) ≡ true → movers_in olds news (take (i + 1) share) ≡ movers_in olds news (take i share)
  member_stays e = split ∙ rw e (append-nil (movers_in olds news (take i share)))

  pub member_leaves : keeps olds news (get_or share i d) ≡ false
      → movers_in olds news (take (i + 1) share) ≡ movers_in olds news (take i share) ++ (get_or share i d ∷ [])
  member_leaves e = split ∙ rw e refl
