-- What a filter, a join and a row of numbers have as members, and that none of them has a member twice.
use Rattle.std.proofs.Common.{ℕ, ◌+◌, ◌<◌, add-one, ◌≡◌, ◌≢◌, ◌⊎◌, ◌↔◌, zero, suc, refl, sym, ◌∙◌, ap, subst, inl, inr, arith, List, [], ◌∷◌, ◌++◌}
use Rattle.std.proofs.Common.{Bool, true, false, get_or, length}
use Rattle.std.specs.List.{filter}
use Rattle.std.proofs.lemmas.Bool.{cases_Bool, cases_lt}
use Rattle.bh_model.specs.Bodies.{IsIn, NoneTwice, numbers}

-- the number at a place of a list is a member
pub member_at : (xs : List ℕ) (k : ℕ) → k < length xs → IsIn xs (get_or xs k 0)
member_at [] k l = absurd (omega arith)
member_at (x ∷ xs) zero l = inl refl
member_at (x ∷ xs) (suc k) l = inr (member_at xs k (omega arith))

-- a filter that no member passes keeps none
pub filter-none : (p : ℕ → Bool) (xs : List ℕ) → ((n : ℕ) → IsIn xs n → p n ≡ true → ⊥) → filter p xs ≡ []
filter-none p [] h = refl
filter-none p (x ∷ xs) h =
    elim (cases_Bool (p x)) [
      | inl e ↦ absurd (h x (inl refl) e)
      | inr e ↦ rw e (filter-none p xs (λ n i. h n (inr i)))
    ]

-- a filter that one member alone passes keeps that one
pub filter-one : (p : ℕ → Bool) (xs : List ℕ) (n : ℕ) → NoneTwice xs → IsIn xs n → p n ≡ true → ((m : ℕ) → IsIn xs m → p m ≡ true → m ≡ n)
    → filter p xs ≡ n ∷ []
filter-one p [] n d i e h = absurd i
filter-one p (x ∷ xs) n d (inl i) e h =
    let f : p x ≡ true = subst (λ (y : ℕ). p y ≡ true) i e in
    let rest : filter p xs ≡ [] = filter-none p xs (λ m j g. d.0 (subst (λ (y : ℕ). IsIn xs y) (h m (inr j) g ∙ i) j)) in
    rw (f, rest) (ap (λ y. y ∷ []) (sym i))
filter-one p (x ∷ xs) n d (inr i) e h =
    elim (cases_Bool (p x)) [
      | inl f ↦ absurd (d.0 (subst (λ (y : ℕ). IsIn xs y) (sym (h x (inl refl) f)) i))
      | inr f ↦ rw f (filter-one p xs n d.1 i e (λ m j g. h m (inr j) g))
    ]

-- a filter keeps each member that passes
pub filter-keeps : (p : ℕ → Bool) (xs : List ℕ) (n : ℕ) → IsIn xs n → p n ≡ true → IsIn (filter p xs) n
filter-keeps p [] n i e = i
filter-keeps p (x ∷ xs) n (inl i) e = let f : p x ≡ true = subst (λ (y : ℕ). p y ≡ true) i e in rw f (inl i)
filter-keeps p (x ∷ xs) n (inr i) e =
    elim (cases_Bool (p x)) [
      | inl f ↦ rw f (inr (filter-keeps p xs n i e))
      | inr f ↦ rw f (filter-keeps p xs n i e)
    ]

-- a list with two members
pub record HasTwo (xs : List ℕ) : Type 0 where
  pub first : ℕ
  pub second : ℕ
  pub rest : List ℕ
  pub is : xs ≡ first ∷ second ∷ rest

-- a list with two different members has at least two places
pub two_members : (xs : List ℕ) (a b : ℕ) → IsIn xs a → IsIn xs b → a ≢ b → HasTwo xs
two_members [] a b i j d = absurd i
two_members (x ∷ []) a b (inl i) (inl j) d = absurd (d (i ∙ sym j))
two_members (x ∷ []) a b (inr i) j d = absurd i
two_members (x ∷ []) a b (inl i) (inr j) d = absurd j
two_members (x ∷ y ∷ r) a b i j d = record { first = x; second = y; rest = r; is = refl }

-- two filters in turn
pub filter-filter : (p q r : ℕ → Bool) → ((n : ℕ) → q n ≡ true → p n ≡ r n) → ((n : ℕ) → q n ≡ false → r n ≡ false) → (xs : List ℕ)
    → filter p (filter q xs) ≡ filter r xs
filter-filter p q r passes fails [] = refl
filter-filter p q r passes fails (x ∷ xs) =
    elim (cases_Bool (q x)) [
      | inl e ↦ elim (cases_Bool (p x)) [
        | inl f ↦ rw (e, f, sym (passes x e) ∙ f) (ap (λ y. x ∷ y) (filter-filter p q r passes fails xs))
        | inr f ↦ rw (e, f, sym (passes x e) ∙ f) (filter-filter p q r passes fails xs)
      ]
      | inr e ↦ rw (e, fails x e) (filter-filter p q r passes fails xs)
    ]

-- a filter that each number passes keeps the list
pub filter-all : (p : ℕ → Bool) (xs : List ℕ) → ((n : ℕ) → p n ≡ true) → filter p xs ≡ xs
filter-all p [] h = refl
filter-all p (x ∷ xs) h = rw (h x) (ap (λ y. x ∷ y) (filter-all p xs h))

-- what a filter keeps is a member that passes
pub filter-member : (p : ℕ → Bool) (xs : List ℕ) (n : ℕ) → IsIn (filter p xs) n → IsIn xs n × (p n ≡ true)
filter-member p [] n i = absurd i
filter-member p (x ∷ xs) n i =
    elim (cases_Bool (p x)) [
      | inl e ↦
          let j : (n ≡ x) ⊎ IsIn (filter p xs) n = rw e at i in
          elim j [
            | inl z ↦ (inl z, subst (λ (y : ℕ). p y ≡ true) (sym z) e)
            | inr z ↦ let f = filter-member p xs n z in (inr f.0, f.1)
          ]
      | inr e ↦ let j : IsIn (filter p xs) n = rw e at i in let f = filter-member p xs n j in (inr f.0, f.1)
    ]

-- a filter repeats no member
pub none_twice-filter : (p : ℕ → Bool) (xs : List ℕ) → NoneTwice xs → NoneTwice (filter p xs)
none_twice-filter p [] d = tt
none_twice-filter p (x ∷ xs) d =
    elim (cases_Bool (p x)) [
      | inl e ↦ rw e ((λ i. d.0 (filter-member p xs x i).0), none_twice-filter p xs d.1)
      | inr e ↦ rw e (none_twice-filter p xs d.1)
    ]

-- the children's bodies, in turn
abbrev pub joined : (ℕ → List ℕ) → ℕ → List ℕ
joined g zero = []
joined g (suc k) = joined g k ++ g k

-- the part in which a member of the joined lists stands
pub record IsInPart (g : ℕ → List ℕ) (m n : ℕ) : Type 0 where
  pub part : ℕ
  pub small : part < m
  pub inside : IsIn (g part) n

-- a member of two lists in turn is one of the first or of the second
pub in_append : (xs ys : List ℕ) (n : ℕ) → IsIn (xs ++ ys) n → IsIn xs n ⊎ IsIn ys n
in_append [] ys n i = inr i
in_append (x ∷ xs) ys n (inl i) = inl (inl i)
in_append (x ∷ xs) ys n (inr i) = elim (in_append xs ys n i) [ inl j ↦ inl (inr j) | inr j ↦ inr j ]

-- a member of the first list is one of both in turn
pub in_left : (xs ys : List ℕ) (n : ℕ) → IsIn xs n → IsIn (xs ++ ys) n
in_left [] ys n i = absurd i
in_left (x ∷ xs) ys n (inl i) = inl i
in_left (x ∷ xs) ys n (inr i) = inr (in_left xs ys n i)

-- a member of the second list is one of both in turn
pub in_right : (xs ys : List ℕ) (n : ℕ) → IsIn ys n → IsIn (xs ++ ys) n
in_right [] ys n i = i
in_right (x ∷ xs) ys n i = inr (in_right xs ys n i)

-- two lists without repeats and without a member in common have none in turn
pub none_twice-append : (xs ys : List ℕ) → NoneTwice xs → NoneTwice ys → ((n : ℕ) → IsIn xs n → IsIn ys n → ⊥) → NoneTwice (xs ++ ys)
none_twice-append [] ys p q apart = q
none_twice-append (x ∷ xs) ys p q apart =
    (λ i. elim (in_append xs ys x i) [ inl j ↦ p.0 j | inr j ↦ apart x (inl refl) j ], none_twice-append xs ys p.1 q (λ n i j. apart n (inr i) j))

-- a member of the joined lists stands in one of them
pub in_joined : (g : ℕ → List ℕ) (m n : ℕ) → IsIn (joined g m) n → IsInPart g m n
in_joined g zero n i = absurd i
in_joined g (suc m) n i = elim (in_append (joined g m) (g m) n i) [
  | inl j ↦ let r = in_joined g m n j in record { part = r.part; small = omega (arith, r.small); inside = r.inside }
  | inr j ↦ record { part = m; small = omega arith; inside = j }
]

-- a member of one of the lists stands in the joined lists
pub joined_in : (g : ℕ → List ℕ) (m k n : ℕ) → k < m → IsIn (g k) n → IsIn (joined g m) n
joined_in g zero k n l i = absurd (omega arith)
joined_in g (suc m) k n l i = elim (cases_lt k m) [
  | inl r ↦ in_left (joined g m) (g m) n (joined_in g m k n r i)
  | inr r ↦ let same : k ≡ m = omega arith in in_right (joined g m) (g m) n (subst (λ (y : ℕ). IsIn (g y) n) same i)
]

-- lists without repeats, no two of which have a member in common, have none when they are joined
pub none_twice_joined : (g : ℕ → List ℕ) (m : ℕ) → ((k : ℕ) → k < m → NoneTwice (g k))
    → ((i j n : ℕ) → i < m → j < m → IsIn (g i) n → IsIn (g j) n → i ≡ j) → NoneTwice (joined g m)
none_twice_joined g zero each apart = tt
none_twice_joined g (suc m) each apart =
    none_twice-append (joined g m) (g m) (none_twice_joined g m (λ k l. each k (omega arith)) (λ i j n p q x y. apart i j n (omega arith) (omega arith) x y))
    (each m (omega arith))
    (λ n x y. let r = in_joined g m n x in let e : r.part ≡ m = apart r.part m n (omega (arith, r.small)) (omega arith) r.inside y in omega (arith, r.small))

-- one number more
pub numbers_more : (n : ℕ) → numbers (n + 1) ≡ numbers n ++ (n ∷ [])
unfolding numbers
numbers_more n = rw add-one

-- the numbers below a number are those that are less
pub in_numbers : (n m : ℕ) → IsIn (numbers n) m ↔ (m < n)
unfolding numbers
in_numbers zero m = ((λ i. absurd i), (λ l. absurd (omega arith)))
in_numbers (suc n) m = (
  (λ i. elim (in_append (numbers n) (n ∷ []) m i) [
    | inl j ↦ let l : m < n = (in_numbers n m).0 j in omega arith
    | inr j ↦ elim j [ inl e ↦ omega arith | inr e ↦ absurd e ]
  ]),
  (λ l. elim (cases_lt m n) [
    | inl r ↦ in_left (numbers n) (n ∷ []) m ((in_numbers n m).1 r)
    | inr r ↦ in_right (numbers n) (n ∷ []) m (inl (omega arith))
  ]),
)

-- no number stands twice in a row of numbers
pub numbers_once : (n : ℕ) → NoneTwice (numbers n)
unfolding numbers
numbers_once zero = tt
numbers_once (suc n) =
    none_twice-append (numbers n) (n ∷ []) (numbers_once n) ((λ i. i), tt)
    (λ m i j. elim j [ inl e ↦ let l : m < n = (in_numbers n m).0 i in omega arith | inr e ↦ absurd e ])

-- the front of a list in which no number stands twice is such a list
pub once_front : (xs ys : List ℕ) → NoneTwice (xs ++ ys) → NoneTwice xs
once_front [] ys h = tt
once_front (x ∷ xs) ys h = ((λ i. h.0 (in_left xs ys x i)), once_front xs ys h.1)

-- and so is the rest
pub once_back : (xs ys : List ℕ) → NoneTwice (xs ++ ys) → NoneTwice ys
once_back [] ys h = h
once_back (x ∷ xs) ys h = once_back xs ys h.1

-- no number stands in both
pub once_apart : (xs ys : List ℕ) → NoneTwice (xs ++ ys) → (n : ℕ) → IsIn xs n → IsIn ys n → ⊥
once_apart [] ys h n i j = i
once_apart (x ∷ xs) ys h n (inl e) j = h.0 (in_right xs ys x (subst (IsIn ys) e j))
once_apart (x ∷ xs) ys h n (inr i) j = once_apart xs ys h.1 n i j
