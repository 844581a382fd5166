-- A list that rises by a number of its members has those of each number side by side.
use Rattle.std.proofs.Common.{ℕ, ◌+◌, ◌≤◌, ◌≡◌, zero, suc, refl, sym, ◌∙◌, ap, inl, inr, arith, List, [], ◌∷◌, ◌++◌, length, take, drop, eqb, append_assoc}
use Rattle.std.specs.Prelude.{nat_lt}
use Rattle.std.specs.List.{filter}
use Rattle.std.specs.List.Sorted.{IsNonDecreasingBy}
use Rattle.std.proofs.Math.Seq.{drop-append_seam, take-append_seam}
use Rattle.std.proofs.lemmas.Bool.{cases_lt, lt-ltb, le-ltb, ltb-true, ne_eqb, eq-eqb, eqb-true}
use Rattle.std.proofs.lemmas.List.{take-append-drop}
use Rattle.bh_model.specs.Bodies.{IsIn}
use Rattle.bh_model.proofs.Cells.{member_of_all}
use Rattle.bh_model.proofs.Lists.{filter-none}

-- those of a smaller number, those of the number, and those of a greater one
abbrev pub lower : (ℕ → ℕ) → ℕ → List ℕ → List ℕ
lower g k xs = filter (λ x. nat_lt (g x) k) xs

abbrev pub equal : (ℕ → ℕ) → ℕ → List ℕ → List ℕ
equal g k xs = filter (λ x. eqb (g x) k) xs

abbrev pub higher : (ℕ → ℕ) → ℕ → List ℕ → List ℕ
higher g k xs = filter (λ x. nat_lt k (g x)) xs

-- the first of a rising list is least
first_least : (g : ℕ → ℕ) (x : ℕ) (xs : List ℕ) → IsNonDecreasingBy g (x ∷ xs) → (y : ℕ) → IsIn xs y → g x ≤ g y
first_least g x xs rising y i = member_of_all (λ z. g x ≤ g z) xs y (λ k d l. rising 0 (suc k) d (omega arith) (omega arith)) i

rest_rises : (g : ℕ → ℕ) (x : ℕ) (xs : List ℕ) → IsNonDecreasingBy g (x ∷ xs) → IsNonDecreasingBy g xs
rest_rises g x xs rising = λ i j d l m. rising (suc i) (suc j) d (omega arith) (omega arith)

-- a rising list is its three parts one after another
pub three_parts : (g : ℕ → ℕ) (k : ℕ) (xs : List ℕ) → IsNonDecreasingBy g xs → xs ≡ lower g k xs ++ (equal g k xs ++ higher g k xs)
three_parts g k [] rising = refl
three_parts g k (x ∷ xs) rising =
    let rest = three_parts g k xs (rest_rises g x xs rising) in
    let least = first_least g x xs rising in
    elim (cases_lt (g x) k) [
      | inl less ↦
          rw (lt-ltb (g x) k less, ne_eqb (g x) k (λ e. omega arith), le-ltb k (g x) (omega arith)) (ap (λ y. x ∷ y) rest)
      | inr more ↦
          let none : lower g k xs ≡ [] =
          filter-none (λ y. nat_lt (g y) k) xs (λ y i t. let l = ltb-true (g y) k t in let m = least y i in omega arith) in
          elim (cases_lt k (g x)) [
            | inl past ↦
                let no : equal g k xs ≡ [] =
                filter-none (λ y. eqb (g y) k) xs (λ y i t. let e = eqb-true (g y) k t in let m = least y i in omega arith) in
                rw (le-ltb (g x) k more, ne_eqb (g x) k (λ e. omega arith), lt-ltb k (g x) past, none, no)
                (ap (λ y. x ∷ y) (rest ∙ ap (λ y. y ++ (equal g k xs ++ higher g k xs)) none ∙ ap (λ y. y ++ higher g k xs) no))
            | inr here ↦
                let e : g x ≡ k = omega arith in
                rw (le-ltb (g x) k more, eq-eqb (g x) k e, le-ltb k (g x) (omega arith), none)
                (ap (λ y. x ∷ y) (rest ∙ ap (λ y. y ++ (equal g k xs ++ higher g k xs)) none))
          ]
    ]

drop_none : (i : ℕ) → drop {A = ℕ} i [] ≡ []
drop_none zero = refl
drop_none (suc i) = refl

pub drop_drop : (n m : ℕ) (xs : List ℕ) → drop m (drop n xs) ≡ drop (n + m) xs
drop_drop zero m xs = let e : 0 + m ≡ m = omega arith in ap (λ y. drop y xs) (sym e)
drop_drop (suc n) m [] = drop_none m ∙ sym (drop_none (suc n + m))
drop_drop (suc n) m (x ∷ xs) = let e : suc n + m ≡ suc (n + m) = omega arith in drop_drop n m xs ∙ ap (λ y. drop y (x ∷ xs)) (sym e)

-- the middle one of three lists that stand at the front of what a list has from a place on
pub middle_slice : (whole front mid back slice : List ℕ) (start count : ℕ) → slice ≡ take count (drop start whole) → slice ≡ front ++ (mid ++ back)
    → take (length mid) (drop (start + length front) whole) ≡ mid
middle_slice whole front mid back slice start count is parts =
    let tail : List ℕ = drop count (drop start whole) in
    let rest : List ℕ = mid ++ (back ++ tail) in
    let from : drop start whole ≡ front ++ rest =
    sym (take-append-drop count (drop start whole)) ∙ ap (λ y. y ++ tail) (sym is ∙ parts) ∙ append_assoc front (mid ++ back) tail
    ∙ ap (λ y. front ++ y) (append_assoc mid back tail) in
    let there : drop (start + length front) whole ≡ rest =
    sym (drop_drop start (length front) whole) ∙ ap (λ y. drop (length front) y) from ∙ drop-append_seam front rest in
    ap (λ y. take (length mid) y) there ∙ take-append_seam mid (back ++ tail)
