-- Bodies in another order are the same bodies, and each is one of a cube's.
use Rattle.std.proofs.Common.{ℕ, ◌+◌, ◌-◌, ◌/◌, ◌^◌, ◌<◌, ◌≤◌, ◌≡◌, zero, suc, refl, sym, ◌∙◌, ap, subst, inl, inr, arith}
use Rattle.std.proofs.Common.{All, List, [], ◌∷◌, drop, eqb, get_or, length, map, take}
use Rattle.std.specs.List.{filter}
use Rattle.std.specs.List.Sorted.{IsPermutation}
use Rattle.std.proofs.lemmas.Bool.{cases_Bool, eq-eqb, eqb-true}
use Rattle.std.proofs.lemmas.List.{drop_all, get_or-map, length-drop, length-map, length-take-le, take-append-drop}
use Rattle.std.proofs.lemmas.List.Elements.{All-cons, All-drop, All-nil, All-take}
use Rattle.std.proofs.lemmas.List.Sorted.{All-permutation, length_permutation}
use Rattle.octant_code.specs.Points.{site_at}
use Rattle.octant_code.specs.Space.{IsKey, IsUnder, Site, key_of}
use Rattle.octant_code.proofs.Keys.{key-above, key-high, key-low}
use Rattle.bh_model.specs.Bodies.{IsIn, NoneTwice, numbers}
use Rattle.bh_model.proofs.Lists.{filter-keeps, filter-none, in_append, in_numbers, numbers_once, once_back, once_front}
use Rattle.bh_model.proofs.Pieces.{alike_by_order}
use Rattle.bh_model.proofs.Standing.{length_numbers}
use Rattle.space_split.specs.Bodies.{AreCubesIn, IsCubeOf, bodies_of, numbers_of}
use Rattle.space_split.specs.Rows.{AreWhole, Follow, IsOver}
use Rattle.space_split.specs.Sorted.{AreSorted}
use Rattle.space_split.specs.declared.codes.Coded.{Coded}
use Rattle.space_split.specs.declared.cube.Cube.{Cube}
use Rattle.space_split.proofs.Slices.{drop_drop}

-- ---- how often a number stands in a list

abbrev counted : ℕ → List ℕ → ℕ
counted n xs = length (filter (λ m. eqb m n) xs)

in_counted : (n : ℕ) (xs : List ℕ) → IsIn xs n → 1 ≤ counted n xs
in_counted n xs i = member_some (filter (λ m. eqb m n) xs) (filter-keeps (λ m. eqb m n) xs n i (eq-eqb n n refl))
  where
    member_some : (ys : List ℕ) → IsIn ys n → 1 ≤ length ys
    member_some [] j = absurd j
    member_some (y ∷ ys) j = omega arith

counted_in : (n : ℕ) (xs : List ℕ) → 1 ≤ counted n xs → IsIn xs n
counted_in n [] some = absurd (omega arith)
counted_in n (x ∷ xs) some = elim (cases_Bool (eqb x n)) [
  | inl e ↦ inl (sym (eqb-true x n e))
  | inr e ↦ inr (counted_in n xs (rw e at some))
]

few_counted : (n : ℕ) (xs : List ℕ) → NoneTwice xs → counted n xs ≤ 1
few_counted n [] once = omega arith
few_counted n (x ∷ xs) once = elim (cases_Bool (eqb x n)) [
  | inl e ↦
      let same : x ≡ n = eqb-true x n e in
      let none : filter (λ m. eqb m n) xs ≡ [] =
      filter-none (λ m. eqb m n) xs (λ m i t. once.0 (subst (IsIn xs) (eqb-true m n t ∙ sym same) i)) in
      rw e (omega (arith, ap length none))
  | inr e ↦ rw e (few_counted n xs once.1)
]

more_counted : (n x : ℕ) (xs : List ℕ) → counted n xs ≤ counted n (x ∷ xs)
more_counted n x xs = elim (cases_Bool (eqb x n)) [ inl e ↦ rw e (omega arith) | inr e ↦ rw e (omega arith) ]

once_counted : (xs : List ℕ) → ((n : ℕ) → counted n xs ≤ 1) → NoneTwice xs
once_counted [] few = tt
once_counted (x ∷ xs) few = (
  (λ i. twice x xs (in_counted x xs i) (few x)),
  once_counted xs (λ n. omega (arith, few n, more_counted n x xs)),
)
  where
    twice : (y : ℕ) (ys : List ℕ) → 1 ≤ counted y ys → counted y (y ∷ ys) ≤ 1 → ⊥
    twice y ys some most = let two : suc (counted y ys) ≤ 1 = rw (eq-eqb y y refl) at most in omega (arith, some, two)

-- a list in another order
pub once_order : (xs ys : List ℕ) → IsPermutation xs ys → NoneTwice xs → NoneTwice ys
once_order xs ys p once = once_counted ys (λ n. omega (arith, few_counted n xs once, alike_by_order xs ys p (λ m. eqb m n)))

pub in_order : (xs ys : List ℕ) → IsPermutation xs ys → (n : ℕ) → IsIn xs n → IsIn ys n
in_order xs ys p n i = counted_in n ys (omega (arith, in_counted n xs i, alike_by_order xs ys p (λ m. eqb m n)))

-- ---- slices

pub map_take : {X Y : Type 0} (f : X → Y) (n : ℕ) (xs : List X) → map f (take n xs) ≡ take n (map f xs)
map_take f zero xs = refl
map_take f (suc n) [] = refl
map_take f (suc n) (x ∷ xs) = ap (λ y. f x ∷ y) (map_take f n xs)

pub map_drop : {X Y : Type 0} (f : X → Y) (n : ℕ) (xs : List X) → map f (drop n xs) ≡ drop n (map f xs)
map_drop f zero xs = refl
map_drop f (suc n) [] = refl
map_drop f (suc n) (x ∷ xs) = map_drop f n xs

-- a function of a slice
map_slice : {Y : Type 0} (f : Coded → Y) (bodies : List Coded) (cube : Cube) → map f (bodies_of bodies cube) ≡ take cube.count (drop cube.start (map f bodies))
map_slice f bodies cube = map_take f cube.count (drop cube.start bodies) ∙ ap (take cube.count) (map_drop f cube.start bodies)

once_slice : (n m : ℕ) (xs : List ℕ) → NoneTwice xs → NoneTwice (take n (drop m xs))
once_slice n m xs once =
    let rest : NoneTwice (drop m xs) = once_back (take m xs) (drop m xs) (subst NoneTwice (sym (take-append-drop m xs)) once) in
    once_front (take n (drop m xs)) (drop n (drop m xs)) (subst NoneTwice (sym (take-append-drop n (drop m xs))) rest)

-- ---- the bodies of a cube

all_of_members : (P : ℕ → Type 0) (xs : List ℕ) → ((n : ℕ) → IsIn xs n → P n) → All P xs
all_of_members P [] h = All-nil P
all_of_members P (x ∷ xs) h = All-cons P x xs (h x (inl refl)) (all_of_members P xs (λ n i. h n (inr i)))

module _ (sites : List Site) (bodies : List Coded) (sorted : AreSorted sites bodies) where
  -- there are as many as points
  pub sorted_many : length bodies ≡ length sites
  sorted_many =
      sym (length-map bodies (λ (b : Coded). b.body)) ∙ length_permutation (numbers (length sites)) (numbers_of bodies) sorted.all
      ∙ length_numbers (length sites)

  known : All (λ (b : Coded). b.body < length sites) bodies
  known k d l =
      let every = All-permutation (λ n. n < length sites) (numbers (length sites)) (numbers_of bodies) sorted.all
      (all_of_members (λ n. n < length sites) (numbers (length sites)) (λ n i. (in_numbers (length sites) n).0 i)) in
      omega (arith, every k d.body (omega (arith, l, length-map bodies (λ (b : Coded). b.body))), get_or-map (λ (b : Coded). b.body) bodies k d d.body l)

  pub numbers_are_once : NoneTwice (numbers_of bodies)
  numbers_are_once = once_order (numbers (length sites)) (numbers_of bodies) sorted.all (numbers_once (length sites))

  -- each number is one of the bodies
  pub number_there : (n : ℕ) → n < length sites → IsIn (numbers_of bodies) n
  number_there n l = in_order (numbers (length sites)) (numbers_of bodies) sorted.all n ((in_numbers (length sites) n).1 l)

  module _ (cube : Cube) (some : 1 ≤ cube.count) (inside : cube.start + cube.count ≤ length (map (λ (b : Coded). b.code) bodies))
      (over : IsOver (map (λ (b : Coded). b.code) bodies) cube) where
    own_long : length (bodies_of bodies cube) ≡ cube.count
    own_long =
        length-take-le cube.count (drop cube.start bodies)
        (omega (arith, inside, length-map bodies (λ (b : Coded). b.code), length-drop cube.start bodies))

    own_under : All (λ (b : Coded). IsUnder cube.key (site_at sites b.body)) (bodies_of bodies cube)
    own_under k d l =
        let own : List Coded = bodies_of bodies cube in
        let b : Coded = get_or own k d in
        let long : length (map (λ (q : Coded). q.code) own) ≡ length own = length-map own (λ (q : Coded). q.code) in
        let codes : All (λ code. code / 8 ^ over.0 ≡ cube.key) (map (λ (q : Coded). q.code) own) =
        subst (All (λ code. code / 8 ^ over.0 ≡ cube.key)) (sym (map_slice (λ (q : Coded). q.code) bodies cube)) over.2 in
        let coded : b.code ≡ key_of (site_at sites b.body) 21 =
        All-take (λ (q : Coded). q.code ≡ key_of (site_at sites q.body) 21) cube.count (drop cube.start bodies)
        (All-drop (λ (q : Coded). q.code ≡ key_of (site_at sites q.body) 21) cube.start bodies sorted.coded) k d l in
        let told : b.code / 8 ^ over.0 ≡ cube.key =
        ap (λ y. y / 8 ^ over.0) (sym (get_or-map (λ (q : Coded). q.code) own k d d.code l)) ∙ codes k d.code (omega (arith, l, long)) in
        let deep : (21 - over.0) + over.0 ≡ 21 = omega (arith, over.1) in
        let up : key_of (site_at sites b.body) 21 / 8 ^ over.0 ≡ key_of (site_at sites b.body) (21 - over.0) =
        ap (λ y. key_of (site_at sites b.body) y / 8 ^ over.0) (sym deep) ∙ key-above (site_at sites b.body) (21 - over.0) over.0 in
        (21 - over.0, omega arith, sym told ∙ ap (λ y. y / 8 ^ over.0) coded ∙ up)

    own_key : IsKey cube.key
    own_key =
        let u = own_under 0 (record { code = 0; body = 0 }) (omega (arith, some, own_long)) in (
          u.0,
          u.1,
          omega (arith, u.2, key-low (site_at sites (get_or (bodies_of bodies cube) 0 (record { code = 0; body = 0 })).body) u.0),
          omega (
            arith,
            u.2,
            key-high (site_at sites (get_or (bodies_of bodies cube) 0 (record { code = 0; body = 0 })).body) u.0,
          ),
        )

    pub cube_in : length sites ≤ 65536 → IsCubeOf sites bodies cube
    cube_in few = record {
      some = some;
      inside = omega (arith, inside, length-map bodies (λ (b : Coded). b.code));
      own = record {
        is_key = own_key;
        few = omega (arith, own_long, inside, length-map bodies (λ (b : Coded). b.code), sorted_many, few);
        known = All-take (λ (b : Coded). b.body < length sites) cube.count (drop cube.start bodies) (All-drop (λ (b : Coded). b.body < length sites)
            cube.start bodies known);
        under = own_under;
        once = subst NoneTwice (sym (map_slice (λ (b : Coded). b.body) bodies cube)) (once_slice cube.count cube.start (numbers_of bodies) numbers_are_once);
      };
    }

  -- cubes that hold all codes are cubes of the bodies
  pub cubes_in : (cubes : List Cube) → length sites ≤ 65536 → AreWhole (map (λ (b : Coded). b.code) bodies) cubes → AreCubesIn sites bodies cubes
  cubes_in cubes few whole = λ k d l. cube_in (get_or cubes k d) (whole.some k d l) (whole.inside k d l) (whole.over k d l) few

-- each member of a list, from a place on, lies in one of the slices that follow one another
pub cover : (from to : ℕ) (cubes : List Cube) (xs : List ℕ) → Follow from to cubes → to ≡ length xs → (n : ℕ) (d : Cube) → IsIn (drop from xs) n
    → (i : ℕ) × (i < length cubes) × IsIn (take (get_or cubes i d).count (drop (get_or cubes i d).start xs)) n
cover from to [] xs follow end n d i =
    let none : drop from xs ≡ [] = drop_all from xs (omega (arith, follow, end)) in
    absurd (subst (λ (y : List ℕ). IsIn y n) none i)
cover from to (c ∷ cs) xs follow end n d i =
    let front : List ℕ = take c.count (drop from xs) in
    let back : List ℕ = drop c.count (drop from xs) in
    elim (in_append front back n (subst (λ (y : List ℕ). IsIn y n) (sym (take-append-drop c.count (drop from xs))) i)) [
      | inl j ↦ (0, omega arith, subst (λ (y : ℕ). IsIn (take c.count (drop y xs)) n) (sym follow.0) j)
      | inr j ↦
          let r = cover (from + c.count) to cs xs follow.1 end n d (subst (λ (y : List ℕ). IsIn y n) (drop_drop from c.count xs) j) in
          (suc r.0, omega (arith, r.1), r.2)
    ]
