-- The undivided cubes of a list of bodies part the bodies, and their keys stand in tree order.
use Rattle.std.proofs.Common.{ℕ, ◌+◌, ◌*◌, ◌/◌, ◌<◌, ◌≤◌, ◌≡◌, ◌⊎◌, zero, suc, refl, sym, ◌∙◌}
use Rattle.std.proofs.Common.{ap, subst, inl, inr, arith, List, [], ◌∷◌, ◌++◌, All, length, map, sum_by}
use Rattle.std.proofs.lemmas.Bool.{cases_lt}
use Rattle.std.proofs.lemmas.List.{map-append}
use Rattle.std.proofs.lemmas.List.Elements.{All-append, All-cons, All-nil}
use Rattle.std.proofs.lemmas.List.Sums.{sum_by-cons}
use Rattle.octant_code.specs.Prefixes.{AreInTreeOrder, IsBefore, IsPrefix}
use Rattle.octant_code.specs.Space.{Site, IsUnder, octant_of}
use Rattle.octant_code.proofs.Keys.{octant-small}
use Rattle.octant_code.proofs.Nested.{before_apart, one_holds_other, prefix_child, prefix_self, prefix_then}
use Rattle.bh_model.specs.Bodies.{IsIn}
use Rattle.bh_model.specs.Pieces.{IsUnderOne, cubes_from, dealt, octants_of, of_octant, piece_limit, pieces}
use Rattle.bh_model.specs.declared.piece.Piece.{Piece}
use Rattle.bh_model.proofs.Cells.{LieUnder, in_octant-keeps, in_octant-under, member_of_all, under_root}
use Rattle.bh_model.proofs.Lists.{in_append, in_left, in_right}
use Rattle.bh_model.proofs.Pieces.{cubes-few, cubes-last, cubes-many, cubes-none, cubes_sum, rows}

-- the keys of cubes
abbrev pub keys_of : List (ℕ × ℕ) → List ℕ
keys_of cubes = map (λ (c : ℕ × ℕ). c.0) cubes

-- the keys of the cubes of the first octants
key_rows : (f : ℕ → List (ℕ × ℕ)) (m : ℕ) → keys_of (rows f (suc m)) ≡ keys_of (rows f m) ++ keys_of (f m)
key_rows f m = map-append (λ (c : ℕ × ℕ). c.0) (rows f m) (f m)

-- a member of what the first octants give is one of an octant's
pub from_row : (f : ℕ → List (ℕ × ℕ)) (m key : ℕ) → IsIn (keys_of (rows f m)) key → (k : ℕ) × (k < m) × IsIn (keys_of (f k)) key
from_row f zero key i = absurd i
from_row f (suc m) key i = elim (in_append (keys_of (rows f m)) (keys_of (f m)) key (subst (λ (y : List ℕ). IsIn y key) (key_rows f m) i)) [
  | inl j ↦ let r = from_row f m key j in (r.0, omega (arith, r.1), r.2)
  | inr j ↦ (m, omega arith, j)
]

to_row : (f : ℕ → List (ℕ × ℕ)) (m k key : ℕ) → k < m → IsIn (keys_of (f k)) key → IsIn (keys_of (rows f m)) key
to_row f zero k key l i = absurd (omega arith)
to_row f (suc m) k key l i = subst (λ (y : List ℕ). IsIn y key) (sym (key_rows f m)) (elim (cases_lt k m) [
  | inl r ↦ in_left (keys_of (rows f m)) (keys_of (f m)) key (to_row f m k key r i)
  | inr r ↦ let same : k ≡ m = omega arith in in_right (keys_of (rows f m)) (keys_of (f m)) key (subst (λ (y : ℕ). IsIn (keys_of (f y)) key) same i)
])

-- what is said of the members of a list holds of all
pub all_members : (P : ℕ → Type 0) (xs : List ℕ) → ((n : ℕ) → IsIn xs n → P n) → All P xs
all_members P [] h = All-nil P
all_members P (x ∷ xs) h = All-cons P x xs (h x (inl refl)) (all_members P xs (λ n i. h n (inr i)))

-- two lists in tree order, each of the first before each of the second
order_append : (xs ys : List ℕ) → AreInTreeOrder xs → AreInTreeOrder ys → ((a b : ℕ) → IsIn xs a → IsIn ys b → IsBefore a b) → AreInTreeOrder (xs ++ ys)
order_append [] ys p q cross = q
order_append (x ∷ xs) ys p q cross = (
  All-append (IsBefore x) xs ys p.0 (all_members (IsBefore x) ys (λ b j. cross x b (inl refl) j)),
  order_append xs ys p.1 q (λ a b i j. cross a b
      (inr i) j),
)

-- octants one after another
order_rows : (f : ℕ → List (ℕ × ℕ)) (key m : ℕ) → 1 ≤ key → m ≤ 8 → ((k : ℕ) → k < m → AreInTreeOrder (keys_of (f k)))
    → ((k a : ℕ) → k < m → IsIn (keys_of (f k)) a → IsPrefix (8 * key + k) a) → AreInTreeOrder (keys_of (rows f m))
order_rows f key zero some small each below = tt
order_rows f key (suc m) some small each below =
    subst AreInTreeOrder (sym (key_rows f m))
    (order_append (keys_of (rows f m)) (keys_of (f m)) (order_rows f key m some (omega arith) (λ k l. each k (omega arith)) (λ k a l i. below k a
    (omega arith) i))
    (each m (omega arith))
    (λ a b i j.
    let r = from_row f m a i in
    record {
      above = key;
      first = r.0;
      second = m;
      is_key = some;
      less = r.1;
      small = omega arith;
      holds_one = below r.0 a (omega (arith, r.1)) r.2;
      holds_other = below m b (omega arith) j;
    }))

-- ---- the undivided cubes

-- what is known of the keys of a list of cubes below a key: each has the key as a prefix, and they are in order
pub record StandBelow (key : ℕ) (keys : List ℕ) : Type 0 where
  pub below : (a : ℕ) → IsIn keys a → IsPrefix key a
  pub order : AreInTreeOrder keys

stand_none : (key : ℕ) → StandBelow key []
stand_none key = record { below = λ a i. absurd i; order = tt }

stand_one : (key : ℕ) → 1 ≤ key → StandBelow key (key ∷ [])
stand_one key some = record {
  below = λ a i. elim i [ inl e ↦ subst (IsPrefix key) (sym e) (prefix_self key some) | inr e ↦ absurd e ];
  order = (All-nil (IsBefore key), tt);
}

-- a list of cubes by what it is
cubes_are : (o : ℕ → ℕ → ℕ) (most below level key : ℕ) (xs : List ℕ) → (cubes_from o most below level key xs ≡ []) × (length xs ≡ 0)
    ⊎ ((cubes_from o most below level key xs ≡ (key, length xs) ∷ []) ⊎ ((most < length xs) × (0 < below)))
cubes_are o most below level key [] = inl (cubes-none o most below level key, refl)
cubes_are o most zero level key (x ∷ xs) = inr (inl (cubes-last o most level key (x ∷ xs) (λ e. omega arith)))
cubes_are o most (suc below) level key (x ∷ xs) = inr (elim (cases_lt most (length (x ∷ xs))) [
  | inl many ↦ inr (many, omega arith)
  | inr few ↦ inl (cubes-few o most (suc below) level key (x ∷ xs) (λ e. omega arith) few)
])

-- the cubes of a list of bodies stand below its key
pub cubes_stand : (o : ℕ → ℕ → ℕ) (most below level key : ℕ) (xs : List ℕ) → 1 ≤ key → StandBelow key (keys_of (cubes_from o most below level key xs))
cubes_stand o most zero level key xs some = elim (cubes_are o most zero level key xs) [
  | inl none ↦ subst (λ (y : List (ℕ × ℕ)). StandBelow key (keys_of y)) (sym none.0) (stand_none key)
  | inr rest ↦ elim rest [
    | inl one ↦ subst (λ (y : List (ℕ × ℕ)). StandBelow key (keys_of y)) (sym one) (stand_one key some)
    | inr many ↦ absurd (omega (arith, many.1))
  ]
]
cubes_stand o most (suc below) level key xs some = elim (cubes_are o most (suc below) level key xs) [
  | inl none ↦ subst (λ (y : List (ℕ × ℕ)). StandBelow key (keys_of y)) (sym none.0) (stand_none key)
  | inr rest ↦ elim rest [
    | inl one ↦ subst (λ (y : List (ℕ × ℕ)). StandBelow key (keys_of y)) (sym one) (stand_one key some)
    | inr many ↦
        let f : ℕ → List (ℕ × ℕ) = λ k. cubes_from o most below (suc level) (8 * key + k) (of_octant o level k xs) in
        let kids : (k : ℕ) → StandBelow (8 * key + k) (keys_of (f k)) =
        λ k. cubes_stand o most below (suc level) (8 * key + k) (of_octant o level k xs) (omega arith) in
        subst (λ (y : List (ℕ × ℕ)). StandBelow key (keys_of y)) (sym (cubes-many o most below level key xs many.0)) (record {
          below = λ a i. let r = from_row f 8 a i in prefix_then key (8 * key + r.0) a (prefix_child key r.0 some r.1) ((kids r.0).below a r.2);
          order = order_rows f key 8 some (omega arith) (λ k l. (kids k).order) (λ k a l i. (kids k).below a i);
        })
  ]
]

no_member : (xs : List ℕ) (n : ℕ) → length xs ≡ 0 → IsIn xs n → ⊥
no_member [] n e i = i
no_member (x ∷ xs) n e i = omega arith

-- each body lies under one of the cubes
pub under_some : (site : ℕ → Site) (most below level key : ℕ) (xs : List ℕ) (n : ℕ) → level + below ≡ 21 → LieUnder site level key xs → IsIn xs n
    → (own : ℕ) × IsIn (keys_of (cubes_from (octants_of site) most below level key xs)) own × IsUnder own (site n)
under_some site most zero level key xs n sum under i = elim (cubes_are (octants_of site) most zero level key xs) [
  | inl none ↦ absurd (no_member xs n none.1 i)
  | inr rest ↦ elim rest [
    | inl one ↦ (key, subst (λ (y : List (ℕ × ℕ)). IsIn (keys_of y) key) (sym one) (inl refl), (level, omega arith, sym (under n i)))
    | inr many ↦ absurd (omega (arith, many.1))
  ]
]
under_some site most (suc below) level key xs n sum under i = elim (cubes_are (octants_of site) most (suc below) level key xs) [
  | inl none ↦ absurd (no_member xs n none.1 i)
  | inr rest ↦ elim rest [
    | inl one ↦ (key, subst (λ (y : List (ℕ × ℕ)). IsIn (keys_of y) key) (sym one) (inl refl), (level, omega arith, sym (under n i)))
    | inr many ↦
        let k : ℕ = octant_of (site n) level in
        let f : ℕ → List (ℕ × ℕ) = λ j. cubes_from (octants_of site) most below (suc level) (8 * key + j) (of_octant (octants_of site) level j xs) in
        let r = under_some site most below (suc level) (8 * key + k) (of_octant (octants_of site) level k xs) n (omega arith)
        (in_octant-under site level key k xs under) (in_octant-keeps site level xs n k i refl) in (
          r.0,
          subst (λ (y : List (ℕ × ℕ)). IsIn (keys_of y) r.0) (sym (cubes-many (octants_of site) most below level key xs many.0))
              (to_row f 8 k r.0 (octant-small (site n) level) r.1),
          r.2,
        )
  ]
]

-- ---- pieces

-- dealing keeps the keys
pub dealt_keys : (whole workers before : ℕ) (cubes : List (ℕ × ℕ)) → map (λ (p : Piece). p.key) (dealt whole workers before cubes) ≡ keys_of cubes
dealt_keys whole workers before [] = refl
dealt_keys whole workers before (c ∷ cs) = ap (λ y. c.0 ∷ y) (dealt_keys whole workers (before + c.1) cs)

-- and the counts
pub dealt_counts : (whole workers before : ℕ) (cubes : List (ℕ × ℕ))
    → sum_by (λ (p : Piece). p.count) (dealt whole workers before cubes) ≡ sum_by (λ (c : ℕ × ℕ). c.1) cubes
dealt_counts whole workers before [] = refl
dealt_counts whole workers before (c ∷ cs) =
    omega (
      arith,
      sum_by-cons (λ (p : Piece). p.count) (record { key = c.0; count = c.1; worker = before * workers / whole })
          (dealt whole workers (before + c.1) cs),
      sum_by-cons (λ (q : ℕ × ℕ). q.1) c cs,
      dealt_counts whole workers (before + c.1) cs,
    )

-- of two members of a list in tree order, each a key of one point, one is the other
pub one_alone : (s : Site) (keys : List ℕ) (a b : ℕ) → AreInTreeOrder keys → IsIn keys a → IsIn keys b → IsUnder a s → IsUnder b s → a ≡ b
one_alone s [] a b h i j p q = absurd i
one_alone s (x ∷ xs) a b h (inl e) (inl f) p q = e ∙ sym f
one_alone s (x ∷ xs) a b h (inl e) (inr j) p q =
    let neither = before_apart a b (subst (λ (y : ℕ). IsBefore y b) (sym e) (member_of_all (IsBefore x) xs b h.0 j)) in
    absurd (one_holds_other s a b p q neither.0 neither.1)
one_alone s (x ∷ xs) a b h (inr i) (inl f) p q =
    let neither = before_apart b a (subst (λ (y : ℕ). IsBefore y a) (sym f) (member_of_all (IsBefore x) xs a h.0 i)) in
    absurd (one_holds_other s a b p q neither.1 neither.0)
one_alone s (x ∷ xs) a b h (inr i) (inr j) p q = one_alone s xs a b h.1 i j p q

-- the undivided cubes of all bodies for so many workers
abbrev pub cubes_of : (ℕ → Site) → ℕ → List ℕ → List (ℕ × ℕ)
cubes_of site workers bodies = cubes_from (octants_of site) (piece_limit (length bodies) workers) 21 0 1 bodies

-- the keys of the pieces are those of the cubes
pub piece_keys : (site : ℕ → Site) (workers : ℕ) (bodies : List ℕ)
    → map (λ (p : Piece). p.key) (pieces site workers bodies) ≡ keys_of (cubes_of site workers bodies)
piece_keys site workers bodies = dealt_keys (length bodies) workers 0 (cubes_of site workers bodies)

-- and they stand in tree order
pub pieces_in_order : (site : ℕ → Site) (workers : ℕ) (bodies : List ℕ) → AreInTreeOrder (map (λ (p : Piece). p.key) (pieces site workers bodies))
pieces_in_order site workers bodies =
    subst AreInTreeOrder (sym (piece_keys site workers bodies))
    (cubes_stand (octants_of site) (piece_limit (length bodies) workers) 21 0 1 bodies (omega arith)).order

-- each body lies under one piece alone
pub body_in_one_piece : (site : ℕ → Site) (workers : ℕ) (bodies : List ℕ) (n : ℕ) → IsIn bodies n
    → IsUnderOne (map (λ (p : Piece). p.key) (pieces site workers bodies)) (site n)
body_in_one_piece site workers bodies n i =
    let r = under_some site (piece_limit (length bodies) workers) 21 0 1 bodies n refl (under_root site bodies) i in
    let keys : List ℕ = map (λ (p : Piece). p.key) (pieces site workers bodies) in
    let own : IsIn keys r.0 = subst (λ (y : List ℕ). IsIn y r.0) (sym (piece_keys site workers bodies)) r.1 in
    record {
      own = r.0;
      inside = own;
      under = r.2;
      only = λ key j u. one_alone (site n) keys key r.0 (pieces_in_order site workers bodies) j own u r.2;
    }

-- the counts of the pieces are all bodies
pub pieces_sum : (site : ℕ → Site) (workers : ℕ) (bodies : List ℕ) → sum_by (λ (p : Piece). p.count) (pieces site workers bodies) ≡ length bodies
pieces_sum site workers bodies =
    dealt_counts (length bodies) workers 0 (cubes_of site workers bodies)
    ∙ cubes_sum (octants_of site) (piece_limit (length bodies) workers) 21 0 1 bodies (λ n l. octant-small (site n) l)
