-- Texts that are put for one element of a list after another.
use Rattle.std.proofs.Common.{◌≡◌, ◌∙◌, ◌<◌, ◌≤◌, ◌+◌, ℕ, zero, suc, List, [], ◌∷◌, ◌++◌, Option, take, drop, length, get_or, map, refl, sym, ap, subst}
use Rattle.std.proofs.Common.{arith, inl, inr, add-one}
use Rattle.std.proofs.lemmas.Bool.{cases_lt}
use Rattle.std.proofs.lemmas.Grind.{flat_map-append}
use Rattle.std.proofs.lemmas.List.{append_assoc, append-nil, take_all, take-append-drop, take_more}
use Rattle.std.proofs.lemmas.List.Folds.{flat_map-map}
use Rattle.std.specs.List.{flat_map}
use Rattle.bh_model.specs.Bodies.{numbers}
use Rattle.std.specs.Prelude.{IsErr, Result}
use Rattle.bh_outside.specs.Text.{Puts, PutsAll, PutsFront}
use Rattle.bh_outside.proofs.Texts.{puts_fail, puts_failed, puts_more, puts_stop, puts_then}

-- the texts of a list and of one element more
texts-push : {X : Type 0} (f : X → List ℕ) (xs : List X) (x : X) → flat_map f (xs ++ (x ∷ [])) ≡ flat_map f xs ++ f x
texts-push f xs x = flat_map-append f xs (x ∷ []) ∙ ap (λ t. flat_map f xs ++ t) (append-nil (f x))

-- ---- the elements of a list

-- one element more was put
pub row_more : {X : Type 0} (f : X → List ℕ) (xs : List X) (i : ℕ) (d : X) (a b c : Option (List ℕ)) (u v w : List ℕ) → i < length xs
    → PutsAll a b u v (flat_map f (take i xs)) → PutsAll b c v w (f (get_or xs i d)) → PutsAll a c u w (flat_map f (take (i + 1) xs))
row_more f xs i d a b c u v w within first second =
    rw (ap (flat_map f) (take_more xs i d within) ∙ texts-push f (take i xs) (get_or xs i d))
    (puts_more a b c u v w (flat_map f (take i xs)) (f (get_or xs i d)) first second)

-- the put of an element failed
pub row_failed : {X : Type 0} (f : X → List ℕ) (xs : List X) (i : ℕ) (d : X) (a b c : Option (List ℕ)) (u v : List ℕ) → i < length xs
    → PutsAll a b u v (flat_map f (take i xs)) → PutsFront b c v (f (get_or xs i d)) → PutsFront a c u (flat_map f xs)
row_failed f xs i d a b c u v within first second =
    let parted : flat_map f xs ≡ (flat_map f (take i xs) ++ f (get_or xs i d)) ++ flat_map f (drop (i + 1) xs) =
    ap (flat_map f) (sym (take-append-drop (i + 1) xs)) ∙ flat_map-append f (take (i + 1) xs) (drop (i + 1) xs)
    ∙ ap (λ t. t ++ flat_map f (drop (i + 1) xs)) (ap (flat_map f) (take_more xs i d within) ∙ texts-push f (take i xs) (get_or xs i d)) in
    rw parted (puts_failed a c u (flat_map f (take i xs) ++ f (get_or xs i d)) (flat_map f (drop (i + 1) xs))
    (puts_fail a b c u v (flat_map f (take i xs)) (f (get_or xs i d)) first second))

-- ---- the numbers below a number

-- the texts of no numbers
pub numbers-none : (f : ℕ → List ℕ) → flat_map f (numbers 0) ≡ []
unfolding numbers
numbers-none f = refl

-- the texts of one number more
pub numbers-push : (f : ℕ → List ℕ) (k : ℕ) → flat_map f (numbers (k + 1)) ≡ flat_map f (numbers k) ++ f k
unfolding numbers
numbers-push f k = rw add-one (texts-push f (numbers k) k)

-- the numbers from a number on
record HasLater (f : ℕ → List ℕ) (n k : ℕ) : Type 0 where
  later : List ℕ
  is : flat_map f (numbers n) ≡ (flat_map f (numbers k) ++ f k) ++ later

later_of : (f : ℕ → List ℕ) (n k : ℕ) → k < n → HasLater f n k
later_of f zero k h = absurd (omega arith)
later_of f (suc n) k h =
    let next : flat_map f (numbers (suc n)) ≡ flat_map f (numbers n) ++ f n = rw add-one at (numbers-push f n) in
    elim (cases_lt k n) [
      | inl less ↦ (let r = later_of f n k
          less in record { later = r.later ++ f n; is = next ∙ ap (λ t. t ++ f n) r.is ∙ append_assoc (flat_map f (numbers k) ++ f k) r.later (f n) })
      | inr last ↦ (let e : n ≡ k = omega
          arith in record { later = []; is = next ∙ ap (λ j. flat_map f (numbers j) ++ f j) e ∙ sym (append-nil (flat_map f (numbers k) ++ f k)) })
    ]

-- one number more was put
pub number_more : (f : ℕ → List ℕ) (k : ℕ) (a b c : Option (List ℕ)) (u v w : List ℕ) → PutsAll a b u v (flat_map f (numbers k)) → PutsAll b c v w (f k)
    → PutsAll a c u w (flat_map f (numbers (k + 1)))
number_more f k a b c u v w first second = rw (numbers-push f k) (puts_more a b c u v w (flat_map f (numbers k)) (f k) first second)

-- the put of a number failed
pub number_failed : (f : ℕ → List ℕ) (n k : ℕ) (a b c : Option (List ℕ)) (u v : List ℕ) → k < n → PutsAll a b u v (flat_map f (numbers k))
    → PutsFront b c v (f k)
    → PutsFront a c u (flat_map f (numbers n))
number_failed f n k a b c u v less first second =
    let r = later_of f n k less in
    rw r.is (puts_failed a c u (flat_map f (numbers k) ++ f k) r.later (puts_fail a b c u v (flat_map f (numbers k)) (f k) first second))

-- ---- lists that are seen as others

-- all elements were put
pub row_all : {X Y : Type 0} (f : Y → List ℕ) (seen : X → Y) (xs : List X) (i : ℕ) (a b : Option (List ℕ)) (u v : List ℕ) → length xs ≤ i
    → PutsAll a b u v (flat_map (λ x. f (seen x)) (take i xs))
    → PutsAll a b u v (flat_map f (map seen xs))
row_all f seen xs i a b u v all puts =
    let P : List ℕ → Type 0 = λ t. PutsAll a b u v t in
    subst P (ap (flat_map (λ x. f (seen x))) (take_all i xs all) ∙ sym (flat_map-map f seen xs)) puts

-- all numbers below a number were put
pub number_all : {Y : Type 0} (f : Y → List ℕ) (seen : ℕ → Y) (n k : ℕ) (a b : Option (List ℕ)) (u v : List ℕ) → k ≡ n
    → PutsAll a b u v (flat_map (λ j. f (seen j)) (numbers k))
    → PutsAll a b u v (flat_map f (map seen (numbers n)))
number_all f seen n k a b u v all puts =
    let P : List ℕ → Type 0 = λ t. PutsAll a b u v t in
    subst P (ap (λ j. flat_map (λ j. f (seen j)) (numbers j)) all ∙ sym (flat_map-map f seen (numbers n))) puts

-- ---- one list after another

-- a list after one that was put
pub list_then : {X T E : Type 0} (f : X → List ℕ) (xs ys : List X) (a b c : Option (List ℕ)) (u v w : List ℕ) (r : Result T E)
    → PutsAll a b u v (flat_map f xs) → Puts b c v w (flat_map f ys) r
    → Puts a c u w (flat_map f (xs ++ ys)) r
list_then f xs ys a b c u v w r first second = rw (flat_map-append f xs ys) (puts_then a b c u v w (flat_map f xs) (flat_map f ys) r first second)

-- the put of the first list failed
pub list_stop : {X T E : Type 0} (f : X → List ℕ) (xs ys : List X) (a b : Option (List ℕ)) (u v : List ℕ) (r : Result T E) → IsErr r
    → PutsFront a b u (flat_map f xs)
    → Puts a b u v (flat_map f (xs ++ ys)) r
list_stop f xs ys a b u v r stopped first =
    rw (flat_map-append f xs ys) (puts_stop a b u v (flat_map f xs ++ flat_map f ys) r stopped (puts_failed a b u (flat_map f xs) (flat_map f ys) first))

-- ---- one element after another

-- the elements of a list after one that was put
pub one_then : {X T E : Type 0} (f : X → List ℕ) (x : X) (ys : List X) (a b c : Option (List ℕ)) (u v w : List ℕ) (r : Result T E) → PutsAll a b u v (f x)
    → Puts b c v w (flat_map f ys) r
    → Puts a c u w (flat_map f (x ∷ ys)) r
one_then f x ys a b c u v w r first second = puts_then a b c u v w (f x) (flat_map f ys) r first second

-- the put of the first element failed
pub one_stop : {X T E : Type 0} (f : X → List ℕ) (x : X) (ys : List X) (a b : Option (List ℕ)) (u v : List ℕ) (r : Result T E) → IsErr r → PutsFront a b u (f x)
    → Puts a b u v (flat_map f (x ∷ ys)) r
one_stop f x ys a b u v r stopped first = puts_stop a b u v (f x ++ flat_map f ys) r stopped (puts_failed a b u (f x) (flat_map f ys) first)

-- the last element
pub one_last : {X T E : Type 0} (f : X → List ℕ) (x : X) (a b : Option (List ℕ)) (u v : List ℕ) (r : Result T E) → Puts a b u v (f x) r
    → Puts a b u v (flat_map f (x ∷ [])) r
one_last f x a b u v r put = rw (append-nil (f x)) put
