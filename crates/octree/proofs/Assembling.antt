-- The parts are put in their places one after another.
use Rattle.std.proofs.Common.{ℕ, zero, suc, ◌+◌, ◌-◌, ◌*◌, ◌/◌, ◌^◌, ◌<◌, ◌≤◌, ◌≡◌, ◌≢◌, ◌↔◌, refl, sym, ◌∙◌, ap, subst, inl, inr, arith}
use Rattle.std.proofs.Common.{List, [], ◌∷◌, ◌++◌, Some, get_or, length, slice_get, slice_index}
use Rattle.std.proofs.Math.Nat.{div-le_self}
use Rattle.std.proofs.lemmas.Bool.{cases_lt}
use Rattle.std.proofs.lemmas.Option.{none-some, same_Some, slice_get_within}
use Rattle.octant_code.proofs.Keys.{key-low, pow8-mono, same_level}
use Rattle.octant_code.proofs.Nested.{before_apart, off_twice, prefix_self, prefix_then}
use Rattle.octant_code.specs.Points.{ArePoints, site_at}
use Rattle.octant_code.specs.Prefixes.{AreInTreeOrder, IsBefore, IsPrefix, IsProperPrefix}
use Rattle.octant_code.specs.Space.{IsKey, IsUnder, Site, key_of}
use Rattle.bh_model.proofs.MoreThan.{more_so, one_of_more}
use Rattle.bh_model.specs.Bodies.{HasMoreThan, leaf_size}
use Rattle.octree.proofs.Growing.{place_inside}
use Rattle.octree.proofs.ReadWords.{reached_blank}
use Rattle.octree.proofs.Words.{at_past}
use Rattle.octree.specs.ByKeys.{AreParts, IsAssembled, IsInSome, StandsByKeys}
use Rattle.octree.specs.Growing.{AreFilled, ArePlaced, IsAboveBase, IsCopied, IsFreePlace, IsGrowing, IsMade, IsSource, IsWayMade, bases, cells_in}
use Rattle.octree.specs.Stored.{IsCanonical, IsStored, Stored, root_word, word_count}
use Rattle.tree_rule.proofs.Laws.{amid_same, bodies_of_stands, cell_reached, key_apart, one_key, place_kept, sound_of_stands, stands_empty}
use Rattle.tree_rule.proofs.Laws.{word_at_place, word_is, ACell, NoBody, OneBody}
use Rattle.tree_rule.specs.Flat.{IsPlaceOf, IsShared, IsWordOf, StandsFor}
use Rattle.tree_rule.specs.Sound.{HereAs}
use Rattle.tree_rule.specs.Words.{HasBody, HasCell, at_of, body_word, cell_word, key_place}

-- ---- keys in tree order

-- a proper prefix is a prefix
proper_prefix : (x a : ℕ) → IsProperPrefix x a → IsPrefix x a
proper_prefix x a p = (p.0, suc p.1, p.2)

-- and less than an eighth of the key
proper_less : (x a : ℕ) → IsProperPrefix x a → x ≤ a / 8
proper_less x a p =
    let one : 8 ^ 1 ≡ 8 = refl in
    let more : suc p.1 ≡ 1 + p.1 = omega arith in
    let off : x ≡ a / 8 ^ 1 / 8 ^ p.1 = p.2 ∙ ap (λ y. a / 8 ^ y) more ∙ sym (off_twice a 1 p.1) in
    let first : a / 8 ^ 1 ≡ a / 8 = ap (λ y. a / y) one in
    omega (arith, off, first, div-le_self (a / 8 ^ 1) (8 ^ p.1))

-- a prefix is no greater
prefix_low : (a x : ℕ) → IsPrefix a x → a ≤ x
prefix_low a x p = omega (arith, p.2, div-le_self x (8 ^ p.1))

-- of two prefixes of one key one is a prefix of the other
nested : (x a b : ℕ) → (p : IsPrefix a x) → (q : IsPrefix b x) → p.1 ≤ q.1 → IsPrefix b a
nested x a b p q less =
    let deep : q.1 ≡ p.1 + (q.1 - p.1) = omega arith in
    (q.0, q.1 - p.1, q.2 ∙ ap (λ y. x / 8 ^ y) deep ∙ sym (off_twice x p.1 (q.1 - p.1)) ∙ ap (λ y. y / 8 ^ (q.1 - p.1)) (sym p.2))

-- an earlier key of a list stands before a later one
before_at : (keys : List ℕ) → AreInTreeOrder keys → (i j : ℕ) → i < j → j < length keys → IsBefore (slice_index keys i) (slice_index keys j)
before_at [] h i j l m = absurd (omega arith)
before_at (x ∷ xs) h i zero l m = absurd (omega arith)
before_at (x ∷ xs) h zero (suc j) l m = h.0 j 0 (omega arith)
before_at (x ∷ xs) h (suc i) (suc j) l m = before_at xs h.1 i j (omega arith) (omega arith)

module _ (keys : List ℕ) (h : AreInTreeOrder keys) where
  -- an earlier and a later key are no prefixes of one key
  no_common : (i j x : ℕ) → i < j → j < length keys → IsPrefix (slice_index keys i) x → IsPrefix (slice_index keys j) x → ⊥
  no_common i j x l m p q =
      let neither = before_apart (slice_index keys i) (slice_index keys j) (before_at keys h i j l m) in
      elim (cases_lt p.1 q.1) [
        | inl less ↦ neither.1 (nested x (slice_index keys i) (slice_index keys j) p q (omega arith))
        | inr more ↦ neither.0 (nested x (slice_index keys j) (slice_index keys i) q p more)
      ]

  -- one key of the list is a prefix of a key
  pub one_owner : (i j x : ℕ) → i < length keys → j < length keys → IsPrefix (slice_index keys i) x → IsPrefix (slice_index keys j) x → i ≡ j
  one_owner i j x l m p q = elim (cases_lt i j) [
    | inl less ↦ absurd (no_common i j x less m p q)
    | inr more ↦ elim (cases_lt j i) [
      | inl less ↦ absurd (no_common j i x less l q p)
      | inr both ↦ omega arith
    ]
  ]

  -- no key is below one of the list and above one
  pub no_top : (i j x : ℕ) → i < length keys → j < length keys → IsPrefix (slice_index keys i) x → IsProperPrefix x (slice_index keys j) → ⊥
  no_top i j x l m p q =
      let k : ℕ → ℕ = slice_index keys in
      let up : IsPrefix (k i) (k j) = prefix_then (k i) x (k j) p (proper_prefix x (k j) q) in
      let some : 1 ≤ k j = omega (arith, q.0, proper_less x (k j) q) in
      let same : i ≡ j = one_owner i j (k j) l m up (prefix_self (k j) some) in
      omega (arith, ap k same, prefix_low (k i) x p, proper_less x (k j) q, q.0)

-- ---- parts

-- the base key of a part
pub base_at : (parts : List Stored) (i : ℕ) (o : Stored) → slice_get parts i ≡ Some o → (i < length (bases parts)) × (slice_index (bases parts) i ≡ o.base)
base_at [] i o e = absurd (none-some o e)
base_at (x ∷ xs) zero o e = (omega arith, ap (λ (y : Stored). y.base) (same_Some x o e))
base_at (x ∷ xs) (suc i) o e = let f = base_at xs i o e in (omega (arith, f.0), f.1)

bases_length : (parts : List Stored) → length (bases parts) ≡ length parts
bases_length [] = refl
bases_length (x ∷ xs) = ap suc (bases_length xs)

-- a member of a list
member_at : (parts : List Stored) (i : ℕ) (o : Stored) → slice_get parts i ≡ Some o → get_or parts i o ≡ o
member_at [] i o e = absurd (none-some o e)
member_at (x ∷ xs) zero o e = same_Some x o e
member_at (x ∷ xs) (suc i) o e = member_at xs i o e

-- what is read at a place of a list stands there
pub item_at : (parts : List Stored) (i : ℕ) (o : Stored) → i < length parts → o ≡ get_or parts i o → slice_get parts i ≡ Some o
item_at [] i o l e = absurd (omega arith)
item_at (x ∷ xs) zero o l e = ap Some (sym e)
item_at (x ∷ xs) (suc i) o l e = item_at xs i o (omega arith) e

module _ (sites : List Site) (parts : List Stored) (h : AreParts sites parts) where
  pub part_canonical : (i : ℕ) (o : Stored) → slice_get parts i ≡ Some o → IsCanonical sites o
  part_canonical i o e = subst (λ (y : Stored). IsCanonical sites y) (member_at parts i o e) (h.canonical i o (slice_get_within parts i o e))

  -- bodies of the parts are numbers of points
  pub bodies_in_points : (n : ℕ) → IsInSome parts n → n < length sites
  bodies_in_points n b = (part_canonical b.0 b.1 b.3).bodies_in n b.4

  -- of which there are few
  pub bodies_few : ArePoints sites → (n : ℕ) → IsInSome parts n → n < 65536
  bodies_few rule n b = omega (arith, bodies_in_points n b, rule.few)

  -- a part's root is a source
  pub part_source : (i : ℕ) (o : Stored) (key word : ℕ) → slice_get parts i ≡ Some o → key ≡ o.base → word ≡ root_word o → IsSource sites parts o key word
  part_source i o key word e is at_it = record {
    canonical = part_canonical i o e;
    witnesses = λ n b. (i, o, slice_get_within parts i o e, e, b);
    read = HereAs key word is at_it;
  }

  -- bodies share each cube above a base key
  pub upper_shared : (i : ℕ) (o : Stored) (upper : ℕ) → slice_get parts i ≡ Some o → IsKey o.base → IsProperPrefix upper o.base
      → IsShared (site_at sites) (IsInSome parts) upper
  upper_shared i o upper e real p =
      let more : HasMoreThan leaf_size (λ n. IsInSome parts n × IsUnder upper (site_at sites n)) =
      h.shared upper (i, o, slice_get_within parts i o e, member_at parts i o e, p) in
      let one = one_of_more more in
      let u : IsUnder upper (site_at sites one.one) = one.one_is.1 in
      record {
        level = u.0;
        shallow = elim (cases_lt u.0 21) [
          | inl l ↦ l
          | inr l ↦ absurd (omega (
            arith,
            u.2,
            key-low (site_at sites one.one) u.0,
            pow8-mono 21 u.0 l,
            proper_less upper o.base p,
            real.3,
            pow8-mono real.0 21 (omega (arith, real.1)),
          ))
        ];
        sharers = more_so (λ n b.
            let level : b.1.0 ≡ u.0 = same_level (site_at sites n) (site_at sites one.one) b.1.0 u.0 (sym b.1.2 ∙ u.2) in
            (b.0, b.1.2 ∙ ap (key_of (site_at sites n)) level)) more;
      }

-- ---- places

push_old : (xs : List ℕ) (x j : ℕ) → j < length xs → slice_index (xs ++ (x ∷ [])) j ≡ slice_index xs j
push_old [] x j l = absurd (omega arith)
push_old (y ∷ ys) x zero l = refl
push_old (y ∷ ys) x (suc j) l = push_old ys x j (omega arith)

push_new : (xs : List ℕ) (x : ℕ) → slice_index (xs ++ (x ∷ [])) (length xs) ≡ x
push_new [] x = refl
push_new (y ∷ ys) x = push_new ys x

push_length : (xs : List ℕ) (x : ℕ) → length (xs ++ (x ∷ [])) ≡ length xs + 1
push_length [] x = refl
push_length (y ∷ ys) x = omega (arith, push_length ys x)

-- no cell, and no place
pub placed_none : (sites : List Site) (parts : List Stored) (words : List ℕ) → IsGrowing sites parts words → ((n : ℕ) → HasBody words n → ⊥)
    → cells_in words ≡ 0 → ArePlaced sites parts words [] 0
placed_none sites parts words g bare none = record {
  grown = g;
  bare = bare;
  above = λ c m. absurd (omega (arith, none, m));
  many = refl;
  of_keys = λ j l. absurd (omega (arith, l));
}

-- one place more
pub placed_more : (sites : List Site) (parts : List Stored) (words next places : List ℕ) (i place : ℕ) (o : Stored) → slice_get parts i ≡ Some o
    → ArePlaced sites parts words places i → IsWayMade sites parts words next o.base place → ArePlaced sites parts next (places ++ (place ∷ [])) (i + 1)
placed_more sites parts words next places i place o e h way =
    let base = base_at parts i o e in
    record {
      grown = way.grown;
      bare = way.bare;
      above = λ c m. elim (cases_lt c (cells_in words)) [
        | inl old ↦ subst (IsAboveBase parts) (sym (way.kept c old)) (h.above c old)
        | inr new ↦ (i, base.0, subst (λ (y : ℕ). IsProperPrefix (at_of next (key_place c)) y) (sym base.1) (way.keyed c new m))
      ];
      many = push_length places place ∙ ap (λ y. y + 1) h.many;
      of_keys = λ j l. elim (cases_lt j i) [
        | inl old ↦
            subst (λ (y : ℕ). IsPlaceOf (at_of next) 0 1 (IsMade next) (slice_index (bases parts) j) y) (sym (push_old places place j (omega (arith, h.many))))
            (place_kept (at_of words) (at_of next) 0 1 (IsMade words) (IsMade next) (slice_index (bases parts) j) (slice_index places j)
            (λ c m. omega (arith, m, way.more)) way.kept (h.of_keys j old))
        | inr new ↦
            let here : j ≡ i = omega (arith, l) in
            let last : slice_index (places ++ (place ∷ [])) j ≡ place =
            ap (slice_index (places ++ (place ∷ []))) (here ∙ sym h.many) ∙ push_new places place in
            let key : slice_index (bases parts) j ≡ o.base = ap (slice_index (bases parts)) here ∙ base.1 in
            subst (λ (y : ℕ). IsPlaceOf (at_of next) 0 1 (IsMade next) (slice_index (bases parts) j) y) (sym last)
            (subst (λ (y : ℕ). IsPlaceOf (at_of next) 0 1 (IsMade next) y place) (sym key) way.of_key)
      ];
    }

-- ---- copies

module _ (sites : List Site) (parts : List Stored) (order : AreInTreeOrder (bases parts)) where
  -- the places are free while no part is copied
  place_empty : (words places : List ℕ) (count j : ℕ) → ArePlaced sites parts words places count → j < count → j < length (bases parts)
      → at_of words (slice_index places j) ≡ 0
  place_empty words places count j h l m = elim (word_is (at_of words (slice_index places j))) [
    | NoBody e ↦ e
    | OneBody n e ↦ absurd (h.bare n (h.grown.stands.names_body (slice_index (bases parts) j) n (word (body_word n) e)).0)
    | ACell c e ↦
        let named = h.grown.stands.names_cell (slice_index (bases parts) j) c (word (cell_word c) e) in
        let above = h.above c named.0 in
        let some : 1 ≤ slice_index (bases parts) j = omega (arith, above.2.0, named.1) in
        absurd (no_top (bases parts) order j above.0 (slice_index (bases parts) j) m above.1 (prefix_self (slice_index (bases parts) j) some)
        (subst (λ (y : ℕ). IsProperPrefix y (slice_index (bases parts) above.0)) named.1 above.2))
  ]
    where
      word : (w : ℕ) → at_of words (slice_index places j) ≡ w → IsWordOf (at_of words) (at_of words 0) 1 (IsMade words) (slice_index (bases parts) j) w
      word w e =
          subst (λ (y : ℕ). IsWordOf (at_of words) (at_of words 0) 1 (IsMade words) (slice_index (bases parts) j) y) e
          (word_at_place (at_of words) 0 1 (IsMade words) (slice_index (bases parts) j) (slice_index places j) (h.of_keys j l))

  -- no part is copied
  pub filled_none : (words places : List ℕ) (count : ℕ) → count ≡ length parts → ArePlaced sites parts words places count
      → AreFilled sites parts words places (cells_in words) 0
  filled_none words places count all h = record {
    grown = h.grown;
    some = omega arith;
    above = h.above;
    below = λ c l m. absurd (omega (arith, l, m));
    in_turn = λ i j c d l m p q x y. let a = h.above d q in absurd (no_top (bases parts) order j a.0 (at_of words (key_place d)) m a.1 y a.2);
    of_keys = λ j l. h.of_keys j (omega (arith, all, bases_length parts));
    free = λ j l m. place_empty words places count j h (omega (arith, all, bases_length parts)) m;
    bodies = λ n. ((λ b. absurd (h.bare n b)), (λ b. absurd (omega (arith, b.2))));
  }

  -- the next part's place is free
  pub next_free : (words places : List ℕ) (tops i place : ℕ) (o : Stored) → slice_get parts i ≡ Some o → place ≡ slice_index places i
      → AreFilled sites parts words places tops i → IsFreePlace words o.base place
  next_free words places tops i place o e at_it h =
      let base = base_at parts i o e in
      record {
        of_key =
            subst (λ (y : ℕ). IsPlaceOf (at_of words) 0 1 (IsMade words) o.base y) (sym at_it)
            (subst (λ (y : ℕ). IsPlaceOf (at_of words) 0 1 (IsMade words) y (slice_index places i)) base.1 (h.of_keys i base.0));
        empty = ap (at_of words) at_it ∙ h.free i (omega arith) base.0;
      }

  module _ (words next places : List ℕ) (tops i place : ℕ) (o : Stored) (e : slice_get parts i ≡ Some o) (at_it : place ≡ slice_index places i)
      (h : AreFilled sites parts words places tops i) (copy : IsCopied sites parts o o.base (root_word o) words next place) where
    abbrev key : ℕ → ℕ
    key c = at_of next (key_place c)

    abbrev k : ℕ → ℕ
    k j = slice_index (bases parts) j

    base_is : (i < length (bases parts)) × (k i ≡ o.base)
    base_is = base_at parts i o e

    -- keys stay
    key_same : (c : ℕ) → IsMade words c → key c ≡ at_of words (key_place c)
    key_same c m = copy.kept (key_place c) (omega (arith, m, h.grown.long))
        (λ f. key_apart (at_of words) 0 1 (IsMade words) (k i) (slice_index places i) c (omega arith) (h.of_keys i base_is.0) (f ∙ at_it))

    -- a new cell is below the part's base key
    new_below : (c : ℕ) → cells_in words ≤ c → IsMade next c → IsPrefix (k i) (key c)
    new_below c l m = subst (λ (y : ℕ). IsPrefix y (key c)) (sym base_is.1) (copy.keyed c l m)

    -- an old cell is below no base key of this part or a later one
    old_owner : (j d : ℕ) → i ≤ j → j < length (bases parts) → IsMade words d → IsPrefix (k j) (key d) → ⊥
    old_owner j d l m p x =
        let was : IsPrefix (k j) (at_of words (key_place d)) = subst (IsPrefix (k j)) (key_same d p) x in
        elim (cases_lt d tops) [
          | inl top ↦
              let a = h.above d top in
              no_top (bases parts) order j a.0 (at_of words (key_place d)) m a.1 was a.2
          | inr low ↦
              let b = h.below d low p in
              let same : j ≡ b.0 = one_owner (bases parts) order j b.0 (at_of words (key_place d)) m (omega (arith, b.1, base_is.0)) was b.2 in
              omega (arith, same, b.1)
        ]

    turn : (a b c d : ℕ) → a < b → b < length (bases parts) → IsMade next c → IsMade next d → IsPrefix (k a) (key c) → IsPrefix (k b) (key d) → c < d
    turn a b c d l m p q x y = elim (cases_lt c (cells_in words)) [
      | inl c_old ↦ elim (cases_lt d (cells_in words)) [
        | inl d_old ↦ h.in_turn a b c d l m c_old d_old (subst (IsPrefix (k a)) (key_same c c_old) x) (subst (IsPrefix (k b)) (key_same d d_old) y)
        | inr d_new ↦ omega (arith, c_old, d_new)
      ]
      | inr c_new ↦
          let mine : a ≡ i = one_owner (bases parts) order a i (key c) (omega arith) base_is.0 x (new_below c c_new p) in
          elim (cases_lt d (cells_in words)) [
            | inl d_old ↦ absurd (old_owner b d (omega (arith, mine)) m d_old y)
            | inr d_new ↦
                let also : b ≡ i = one_owner (bases parts) order b i (key d) m base_is.0 y (new_below d d_new q) in
                absurd (omega (arith, mine, also))
          ]
    ]

    -- another place stays free
    still_free : (j : ℕ) → i + 1 ≤ j → j < length (bases parts) → at_of next (slice_index places j) ≡ 0
    still_free j l m =
        let there = h.of_keys j m in
        let apart : slice_index places j ≢ place = λ f.
        let keys : k j ≡ k i = one_key (at_of words) 0 1 (IsMade words) (k j) (k i) (slice_index places i) (omega arith)
        (subst (λ (y : ℕ). IsPlaceOf (at_of words) 0 1 (IsMade words) (k j) y) (f ∙ at_it) there) (h.of_keys i base_is.0) in
        let neither = before_apart (k i) (k j) (before_at (bases parts) order i j (omega arith) m) in
        let before = before_at (bases parts) order i j (omega arith) m in
        neither.0 (subst (IsPrefix (k i)) (sym keys) (prefix_self (k i)
        (omega (arith, before.holds_one.0, prefix_low (8 * before.above + before.first) (k i) before.holds_one)))) in
        copy.kept (slice_index places j) (place_inside words (k j) (slice_index places j) h.grown.long there) apart ∙ h.free j (omega arith) m

    -- the part is copied
    pub filled_more : AreFilled sites parts next places tops (i + 1)
    filled_more = record {
      grown = copy.grown;
      some = omega (arith, h.some, copy.more);
      above = λ c l. subst (IsAboveBase parts) (sym (key_same c (omega (arith, l, h.some)))) (h.above c l);
      below = λ c l m. elim (cases_lt c (cells_in words)) [
        | inl old ↦ let b = h.below c l old in (b.0, omega (arith, b.1), subst (IsPrefix (k b.0)) (sym (key_same c old)) b.2)
        | inr new ↦ (i, omega arith, new_below c new m)
      ];
      in_turn = turn;
      of_keys = λ j l. place_kept (at_of words) (at_of next) 0 1 (IsMade words) (IsMade next) (k j) (slice_index places j)
          (λ c m. omega (arith, m, copy.more)) key_same (h.of_keys j l);
      free = still_free;
      bodies = λ n. (
        (λ b. elim ((copy.bodies n).0 b) [
          | inl x ↦ let f = (h.bodies n).0 x in (f.0, f.1, omega (arith, f.2), f.3, f.4)
          | inr x ↦ (i, o, omega arith, e, x)
        ]),
        (λ b. (copy.bodies n).1 (elim (cases_lt b.0 i) [
          | inl l ↦ inl ((h.bodies n).1 (b.0, b.1, l, b.3, b.4))
          | inr l ↦
              let here : b.0 ≡ i = omega (arith, b.2) in
              let same : b.1 ≡ o = same_Some b.1 o (sym b.3 ∙ ap (slice_get parts) here ∙ e) in
              inr (subst (λ (y : Stored). HasBody y.words n) same b.4)
        ])),
      );
    }

  -- ---- the whole

  -- the octree of the words
  abbrev whole : List ℕ → Stored
  whole words = record { words = words; base = 1; level = 0; used = cells_in words; held = cells_in words }

  module _ (words places : List ℕ) (tops count : ℕ) (all : count ≡ length parts) (few : (n : ℕ) → IsInSome parts n → n < length sites)
      (h : AreFilled sites parts words places tops count) where
    in_some : (n : ℕ) → HasBody words n ↔ IsInSome parts n
    in_some n = (
      (λ b. let f = (h.bodies n).0 b in (f.0, f.1, omega (arith, f.2, all), f.3, f.4)),
      (λ b. (h.bodies n).1 (b.0, b.1, omega (arith, b.2, all), b.3, b.4)),
    )

    -- the cells are those that can be reached
    made : (c : ℕ) → IsMade words c ↔ HasCell words c
    made c = cell_reached (site_at sites) (at_of words) (at_of words 0) 1 (IsMade words) (HasBody words) h.grown.stands c

    stands : StandsFor (site_at sites) (at_of words) (at_of words 0) 1 (IsMade words) (HasBody words)
    stands = amid_same (site_at sites) (at_of words) (at_of words 0) 1 (IsMade words) (IsMade words) (HasBody words) (HasBody words) (IsInSome parts)
        (HasBody words) (λ c. ((λ p. p), (λ p. p))) (λ n. ((λ b. b), (λ b. b))) (λ n v. (in_some n).1 v) h.grown.stands

    pub stored : IsStored (whole words)
    stored = record {
      few = h.grown.few;
      long = h.grown.long;
      used_held = omega arith;
      shallow = omega arith;
      base_low = omega arith;
      base_high = omega arith;
      unlocked = h.grown.unlocked;
      sound = sound_of_stands (site_at sites) (at_of words) (at_of words 0) 1 (IsMade words) (HasBody words) stands;
      cells_used = λ c r. (made c).1 r;
      bodies_small = λ n b. h.grown.small n ((in_some n).0 b);
    }

    by_keys : StandsByKeys (bases parts) (whole words)
    by_keys = record {
      above_first = λ c d p q up not_up.
          let low : c < tops = elim (cases_lt c tops) [
            | inl l ↦ l
            | inr l ↦
                let b = h.below c l ((made c).1 p) in
                absurd (no_top (bases parts) order b.0 up.0 (at_of words (key_place c)) (omega (arith, b.1, all, bases_length parts)) up.1 b.2 up.2)
          ] in
          elim (cases_lt d tops) [
            | inl l ↦ absurd (not_up (h.above d l))
            | inr l ↦ omega (arith, low, l)
          ];
      in_turn = λ i j c d l m p q x y. h.in_turn i j c d l m ((made c).1 p) ((made d).1 q) x y;
    }

    pub assembled_is : IsAssembled sites parts (whole words)
    assembled_is = record {
      base = refl;
      canonical = record {
        under = bodies_of_stands (site_at sites) (at_of words) (at_of words 0) 1 (IsMade words) (HasBody words) stands;
        bodies_in = λ n b. few n ((in_some n).0 b);
      };
      bodies = in_some;
      by_keys = by_keys;
    }

-- ---- no cell

-- words that are 0 as far as they go
pub all_zero : (words : List ℕ) → ((i : ℕ) → i < length words → at_of words i ≡ 0) → (i : ℕ) → at_of words i ≡ 0
all_zero words zeros i = elim (cases_lt i (length words)) [ inl l ↦ zeros i l | inr l ↦ at_past words i l ]

-- words of no cell
pub growing_none : (sites : List Site) (parts : List Stored) (words : List ℕ) → ((n : ℕ) → IsInSome parts n → n < 65536) → length words ≡ word_count 0
    → ((i : ℕ) → at_of words i ≡ 0) → IsGrowing sites parts words × ((n : ℕ) → HasBody words n → ⊥)
growing_none sites parts words small len zeros =
    let bare : (n : ℕ) → HasBody words n → ⊥ = λ n b. omega (arith, reached_blank (at_of words) (at_of words 0) (body_word n) (zeros 0) b) in
    let none : cells_in words ≡ 0 = omega (arith, len) in
    let no_cell : (c : ℕ) → IsMade words c → ⊥ = λ c m. omega (arith, m, none) in (
      record {
        long = omega (arith, len);
        few = omega (arith, none);
        small = small;
        unlocked = record { second = zeros 1; third = zeros 2; locks = λ c m. absurd (no_cell c m) };
        stands = amid_same (site_at sites) (at_of words) (at_of words 0) 1 (IsMade words) (IsMade words) (HasBody words) (HasBody words) (HasBody words)
            (IsInSome parts) (λ c. ((λ p. p), (λ p. p))) (λ n. ((λ b. b), (λ b. b))) (λ n b. absurd (bare n b))
            (stands_empty (site_at sites) (at_of words) (at_of words 0) 1 (IsMade words) (HasBody words) (zeros 0) no_cell bare);
      },
      bare,
    )
