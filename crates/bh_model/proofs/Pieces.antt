-- The cubes that aren't divided, case by case, and that they depend on the octants of the bodies alone.
use Rattle.std.proofs.Common.{ℕ, ◌+◌, ◌*◌, ◌<◌, ◌≤◌, ◌≡◌, ◌≢◌, ◌&&◌, zero, suc, refl, sym, ◌∙◌, ap, inl, inr, arith, eqb}
use Rattle.std.proofs.Common.{List, [], ◌∷◌, ◌++◌, Bool, true, cond, length, map, sum_by, flat_map, All, add-one}
use Rattle.std.specs.Prelude.{nat_lt}
use Rattle.std.specs.List.{filter}
use Rattle.std.specs.List.Sorted.{IsPermutation}
use Rattle.std.proofs.lemmas.Bool.{cases_Bool, cases_lt, le-leb, lt-leb, lt-ltb, le-ltb, ne_eqb, eq-eqb}
use Rattle.std.proofs.lemmas.Grind.{flat_map-append}
use Rattle.std.proofs.lemmas.List.Elements.{All-append, All-nil}
use Rattle.std.proofs.lemmas.List.{length-map}
use Rattle.std.proofs.lemmas.List.Sorted.{sum_by-IsPermutation}
use Rattle.std.proofs.lemmas.List.Sums.{sum_by-append, sum_by-cons}
use Rattle.bh_model.specs.Pieces.{cubes_from, in_turn, of_octant}
use Rattle.bh_model.proofs.Totals.{sum_upto, sum_upto-same}

-- what eight octants give is the same where each gives the same
pub in_turn-same : {T : Type 0} (f g : ℕ → List T) → ((k : ℕ) → k < 8 → f k ≡ g k) → in_turn f ≡ in_turn g
in_turn-same f g h =
    rw (
      h 0 (omega arith),
      h 1 (omega arith),
      h 2 (omega arith),
      h 3 (omega arith),
      h 4 (omega arith),
      h 5 (omega arith),
      h 6 (omega arith),
      h 7
          (omega arith),
    ) refl

-- no body has no cube
pub cubes-none : (o : ℕ → ℕ → ℕ) (most below level key : ℕ) → cubes_from o most below level key [] ≡ []
unfolding cubes_from
cubes-none o most below level key = refl

-- a cube that holds a body is not divided where no level is left
pub cubes-last : (o : ℕ → ℕ → ℕ) (most level key : ℕ) (xs : List ℕ) → length xs ≢ 0 → cubes_from o most zero level key xs ≡ (key, length xs) ∷ []
unfolding cubes_from
cubes-last o most level key [] some = absurd (some refl)
cubes-last o most level key (n ∷ rest) some = refl

-- nor where it holds few bodies
pub cubes-few : (o : ℕ → ℕ → ℕ) (most below level key : ℕ) (xs : List ℕ) → length xs ≢ 0 → length xs ≤ most
    → cubes_from o most below level key xs ≡ (key, length xs) ∷ []
unfolding cubes_from
cubes-few o most below level key [] some few = absurd (some refl)
cubes-few o most zero level key (n ∷ rest) some few = refl
cubes-few o most (suc below) level key (n ∷ rest) some few = rw (le-leb (length (n ∷ rest)) most few) refl

-- a cube with many bodies gives what its octants give
pub cubes-many : (o : ℕ → ℕ → ℕ) (most below level key : ℕ) (xs : List ℕ) → most < length xs
    → cubes_from o most (suc below) level key xs ≡ in_turn (λ k. cubes_from o most below (suc level) (8 * key + k) (of_octant o level k xs))
unfolding cubes_from
cubes-many o most below level key [] many = absurd (omega arith)
cubes-many o most below level key (n ∷ rest) many = rw (lt-leb (length (n ∷ rest)) most many) refl

-- ---- lists with the same counts

-- two lists have as many numbers that pass, whatever is asked
abbrev pub CountAlike : List ℕ → List ℕ → Type 0
CountAlike xs ys = (p : ℕ → Bool) → length (filter p xs) ≡ length (filter p ys)

-- how many pass, as a sum
count_as_sum : (p : ℕ → Bool) (xs : List ℕ) → length (filter p xs) ≡ sum_by (λ x. cond (p x) 1 0) xs
count_as_sum p [] = refl
count_as_sum p (x ∷ xs) = elim (cases_Bool (p x)) [
  | inl e ↦ rw (sum_by-cons (λ y. cond (p y) 1 0) x xs, e) (omega (arith, count_as_sum p xs))
  | inr e ↦ rw (sum_by-cons (λ y. cond (p y) 1 0) x xs, e) (omega (arith, count_as_sum p xs))
]

-- a list in another order
pub alike_by_order : (xs ys : List ℕ) → IsPermutation xs ys → CountAlike xs ys
alike_by_order xs ys h p =
    count_as_sum p xs ∙ sym (sum_by-IsPermutation (λ x. cond (p x) 1 0) xs ys h) ∙ sym (count_as_sum p ys)

-- two filters in turn
both_filters : (p q : ℕ → Bool) (xs : List ℕ) → filter p (filter q xs) ≡ filter (λ n. q n && p n) xs
both_filters p q [] = refl
both_filters p q (x ∷ xs) = elim (cases_Bool (q x)) [
  | inl e ↦ elim (cases_Bool (p x)) [
    | inl f ↦ rw (e, f) (ap (λ y. x ∷ y) (both_filters p q xs))
    | inr f ↦ rw (e, f) (both_filters p q xs)
  ]
  | inr e ↦ rw e (both_filters p q xs)
]

-- what passes of both
alike-filter : (q : ℕ → Bool) (xs ys : List ℕ) → CountAlike xs ys → CountAlike (filter q xs) (filter q ys)
alike-filter q xs ys h p = ap length (both_filters p q xs) ∙ h (λ n. q n && p n) ∙ sym (ap length (both_filters p q ys))

-- a filter that all pass
all_pass : (xs : List ℕ) → filter (λ n. true) xs ≡ xs
all_pass [] = refl
all_pass (x ∷ xs) = ap (λ y. x ∷ y) (all_pass xs)

alike-length : (xs ys : List ℕ) → CountAlike xs ys → length xs ≡ length ys
alike-length xs ys h = sym (ap length (all_pass xs)) ∙ h (λ n. true) ∙ ap length (all_pass ys)

pub nothing : (xs : List ℕ) → length xs ≡ 0 → xs ≡ []
nothing [] e = refl
nothing (x ∷ xs) e = absurd (omega arith)

both_empty : (o : ℕ → ℕ → ℕ) (most below level key : ℕ) (xs ys : List ℕ) → CountAlike xs ys → length xs ≤ 0
    → cubes_from o most below level key xs ≡ cubes_from o most below level key ys
both_empty o most below level key xs ys h none =
    ap (cubes_from o most below level key) (nothing xs (omega arith) ∙ sym (nothing ys (omega (arith, alike-length xs ys h))))

both_few : (o : ℕ → ℕ → ℕ) (most below level key : ℕ) (xs ys : List ℕ) → CountAlike xs ys → 0 < length xs → length xs ≤ most
    → cubes_from o most below level key xs ≡ cubes_from o most below level key ys
both_few o most below level key xs ys h some few =
    let long = alike-length xs ys h in
    cubes-few o most below level key xs (λ e. omega arith) few ∙ ap (λ n. (key, n) ∷ []) long
    ∙ sym (cubes-few o most below level key ys (λ e. omega (arith, long)) (omega (arith, long)))

-- lists with the same counts have the same cubes
pub cubes_alike : (o : ℕ → ℕ → ℕ) (most below level key : ℕ) (xs ys : List ℕ) → CountAlike xs ys
    → cubes_from o most below level key xs ≡ cubes_from o most below level key ys
cubes_alike o most zero level key xs ys h = elim (cases_lt 0 (length xs)) [
  | inr none ↦ both_empty o most zero level key xs ys h none
  | inl some ↦
      let long = alike-length xs ys h in
      cubes-last o most level key xs (λ e. omega arith) ∙ ap (λ n. (key, n) ∷ []) long
      ∙ sym (cubes-last o most level key ys (λ e. omega (arith, long)))
]
cubes_alike o most (suc below) level key xs ys h = elim (cases_lt most (length xs)) [
  | inl many ↦
      let long = alike-length xs ys h in
      cubes-many o most below level key xs many
      ∙ in_turn-same (λ k. cubes_from o most below (suc level) (8 * key + k) (of_octant o level k xs))
      (λ k. cubes_from o most below (suc level) (8 * key + k) (of_octant o level k ys))
      (λ k small. cubes_alike o most below (suc level) (8 * key + k) (of_octant o level k xs) (of_octant o level k ys)
      (alike-filter (λ n. eqb (o n level) k) xs ys h))
      ∙ sym (cubes-many o most below level key ys (omega (arith, long)))
  | inr few ↦ elim (cases_lt 0 (length xs)) [
    | inr none ↦ both_empty o most (suc below) level key xs ys h none
    | inl some ↦ both_few o most (suc below) level key xs ys h some few
  ]
]

-- ---- bodies by other numbers

-- a filter through other numbers
filter-through : (p q : ℕ → Bool) (f : ℕ → ℕ) (xs : List ℕ) → ((n : ℕ) → q n ≡ p (f n)) → filter p (map f xs) ≡ map f (filter q xs)
filter-through p q f [] h = refl
filter-through p q f (x ∷ xs) h = elim (cases_Bool (q x)) [
  | inl e ↦ rw (e, sym (h x) ∙ e) (ap (λ y. f x ∷ y) (filter-through p q f xs h))
  | inr e ↦ rw (e, sym (h x) ∙ e) (filter-through p q f xs h)
]

-- bodies that are told by other numbers with the same octants have the same cubes
pub cubes_through : (o r : ℕ → ℕ → ℕ) (f : ℕ → ℕ) (most below level key : ℕ) (xs : List ℕ) → level + below ≤ 21
    → ((n l : ℕ) → l < 21 → o n l ≡ r (f n) l) → cubes_from o most below level key xs ≡ cubes_from r most below level key (map f xs)
cubes_through o r f most zero level key [] deep same = cubes-none o most zero level key ∙ sym (cubes-none r most zero level key)
cubes_through o r f most zero level key (x ∷ xs) deep same =
    cubes-last o most level key (x ∷ xs) (λ e. omega arith) ∙ ap (λ n. (key, n) ∷ []) (sym (length-map (x ∷ xs) f))
    ∙ sym (cubes-last r most level key (map f (x ∷ xs)) (λ e. omega arith))
cubes_through o r f most (suc below) level key xs deep same = elim (cases_lt most (length xs)) [
  | inl many ↦
      cubes-many o most below level key xs many
      ∙ in_turn-same (λ k. cubes_from o most below (suc level) (8 * key + k) (of_octant o level k xs))
      (λ k. cubes_from r most below (suc level) (8 * key + k) (of_octant r level k (map f xs)))
      (λ k small. cubes_through o r f most below (suc level) (8 * key + k) (of_octant o level k xs) (omega arith) same
      ∙ ap (cubes_from r most below (suc level) (8 * key + k))
      (sym (filter-through (λ n. eqb (r n level) k) (λ n. eqb (o n level) k) f xs (λ n. ap (λ y. eqb y k) (same n level (omega arith))))))
      ∙ sym (cubes-many r most below level key (map f xs) (omega (arith, length-map xs f)))
  | inr few ↦ elim (cases_lt 0 (length xs)) [
    | inr none ↦
        ap (cubes_from o most (suc below) level key) (nothing xs (omega arith)) ∙ cubes-none o most (suc below) level key
        ∙ sym (cubes-none r most (suc below) level key)
        ∙ sym (ap (λ y. cubes_from r most (suc below) level key (map f y)) (nothing xs (omega arith)))
    | inl some ↦
        cubes-few o most (suc below) level key xs (λ e. omega arith) few ∙ ap (λ n. (key, n) ∷ []) (sym (length-map xs f))
        ∙ sym (cubes-few r most (suc below) level key (map f xs) (λ e. omega (arith, length-map xs f)) (omega (arith, length-map xs f)))
  ]
]

-- ---- eight octants, one after another

-- what the first octants give
abbrev pub rows : {T : Type 0} → (ℕ → List T) → ℕ → List T
rows f zero = []
rows f (suc k) = rows f k ++ f k

-- one more octant
pub rows_more : {T : Type 0} (f : ℕ → List T) (k : ℕ) → rows f (k + 1) ≡ rows f k ++ f k
rows_more f k = rw add-one refl

pub flat_map_rows : {T U : Type 0} (h : T → List U) (f : ℕ → List T) (k : ℕ) → flat_map h (rows f k) ≡ rows (λ i. flat_map h (f i)) k
flat_map_rows h f zero = refl
flat_map_rows h f (suc k) = flat_map-append h (rows f k) (f k) ∙ ap (λ y. y ++ flat_map h (f k)) (flat_map_rows h f k)

pub all_rows : {T : Type 0} (P : T → Type 0) (f : ℕ → List T) (k : ℕ) → ((i : ℕ) → i < k → All P (f i)) → All P (rows f k)
all_rows P f zero each = All-nil P
all_rows P f (suc k) each = All-append P (rows f k) (f k) (all_rows P f k (λ i l. each i (omega arith))) (each k (omega arith))

pub sum_rows : {T : Type 0} (h : T → ℕ) (f : ℕ → List T) (k : ℕ) → sum_by h (rows f k) ≡ sum_upto (λ i. sum_by h (f i)) k
unfolding sum_upto
sum_rows h f zero = refl
sum_rows h f (suc k) = omega (arith, sum_by-append h (rows f k) (f k), sum_rows h f k)

-- ---- how many bodies have an octant

-- those of earlier octants than the next are those of earlier octants than this one, and its own
pub earlier_more : (g : ℕ → ℕ) (k : ℕ) (xs : List ℕ)
    → length (filter (λ n. nat_lt (g n) (k + 1)) xs) ≡ length (filter (λ n. nat_lt (g n) k) xs) + length (filter (λ n. eqb (g n) k) xs)
earlier_more g k [] = refl
earlier_more g k (x ∷ xs) = elim (cases_lt (g x) k) [
  | inl less ↦
      rw (lt-ltb (g x) (k + 1) (omega arith), lt-ltb (g x) k less, ne_eqb (g x) k (λ e. omega arith)) (omega (arith, earlier_more g k xs))
  | inr more ↦ elim (cases_lt k (g x)) [
    | inl past ↦
        rw (le-ltb (g x) (k + 1) (omega arith), le-ltb (g x) k more, ne_eqb (g x) k (λ e. omega arith)) (omega (arith, earlier_more g k xs))
    | inr here ↦
        let e : g x ≡ k = omega arith in
        rw (lt-ltb (g x) (k + 1) (omega arith), le-ltb (g x) k more, eq-eqb (g x) k e) (omega (arith, earlier_more g k xs))
  ]
]

pub earlier_none : (g : ℕ → ℕ) (xs : List ℕ) → length (filter (λ n. nat_lt (g n) 0) xs) ≡ 0
earlier_none g [] = refl
earlier_none g (x ∷ xs) = rw (le-ltb (g x) 0 (omega arith)) (earlier_none g xs)

earlier_all : (g : ℕ → ℕ) (m : ℕ) (xs : List ℕ) → ((n : ℕ) → g n < m) → length (filter (λ n. nat_lt (g n) m) xs) ≡ length xs
earlier_all g m [] small = refl
earlier_all g m (x ∷ xs) small = rw (lt-ltb (g x) m (small x)) (omega (arith, earlier_all g m xs small))

earlier_sum : (g : ℕ → ℕ) (xs : List ℕ) (m : ℕ) → sum_upto (λ k. length (filter (λ n. eqb (g n) k) xs)) m ≡ length (filter (λ n. nat_lt (g n) m) xs)
unfolding sum_upto
earlier_sum g xs zero = sym (earlier_none g xs)
earlier_sum g xs (suc m) =
    let next : suc m ≡ m + 1 = omega arith in
    ap (λ y. y + length (filter (λ n. eqb (g n) m) xs)) (earlier_sum g xs m) ∙ sym (earlier_more g m xs)
    ∙ ap (λ y. length (filter (λ n. nat_lt (g n) y) xs)) (sym next)

-- the bodies of the eight octants are all
pub octants_sum : (g : ℕ → ℕ) (xs : List ℕ) → ((n : ℕ) → g n < 8) → sum_upto (λ k. length (filter (λ n. eqb (g n) k) xs)) 8 ≡ length xs
octants_sum g xs small = earlier_sum g xs 8 ∙ earlier_all g 8 xs small

sum_one : (key n : ℕ) (cubes : List (ℕ × ℕ)) → cubes ≡ (key, n) ∷ [] → sum_by (λ (c : ℕ × ℕ). c.1) cubes ≡ n
sum_one key n cubes e = rw e (omega (arith, sum_by-cons (λ (c : ℕ × ℕ). c.1) (key, n) []))

-- the cubes hold all bodies
pub cubes_sum : (o : ℕ → ℕ → ℕ) (most below level key : ℕ) (xs : List ℕ) → ((n l : ℕ) → o n l < 8)
    → sum_by (λ (c : ℕ × ℕ). c.1) (cubes_from o most below level key xs) ≡ length xs
cubes_sum o most zero level key xs small = elim (cases_lt 0 (length xs)) [
  | inr none ↦ let e = nothing xs (omega arith) in rw (e, cubes-none o most zero level key) refl
  | inl some ↦ sum_one key (length xs) _ (cubes-last o most level key xs (λ e. omega arith))
]
cubes_sum o most (suc below) level key xs small = elim (cases_lt most (length xs)) [
  | inl many ↦
      ap (sum_by (λ (c : ℕ × ℕ). c.1)) (cubes-many o most below level key xs many)
      ∙ sum_rows (λ (c : ℕ × ℕ). c.1) (λ k. cubes_from o most below (suc level) (8 * key + k) (of_octant o level k xs)) 8
      ∙ sum_upto-same (λ k. sum_by (λ (c : ℕ × ℕ). c.1) (cubes_from o most below (suc level) (8 * key + k) (of_octant o level k xs)))
      (λ k. length (of_octant o level k xs)) 8
      (λ k l. cubes_sum o most below (suc level) (8 * key + k) (of_octant o level k xs) small)
      ∙ octants_sum (λ n. o n level) xs (λ n. small n level)
  | inr few ↦ elim (cases_lt 0 (length xs)) [
    | inr none ↦ let e = nothing xs (omega arith) in rw (e, cubes-none o most (suc below) level key) refl
    | inl some ↦ sum_one key (length xs) _ (cubes-few o most (suc below) level key xs (λ e. omega arith) few)
  ]
]
