-- Bodies that leave their cells: the leaves of an octree, that the cells of what stays are in the octrees before and after, and how many cells
-- there are.
use Rattle.std.proofs.Common.{ℕ, ◌+◌, ◌*◌, ◌<◌, ◌≤◌, ◌≡◌, ◌≢◌, ◌↔◌, zero, suc, refl, sym, ◌∙◌, ap, subst, inl, inr, arith, Bool, true, false, not}
use Rattle.std.proofs.Common.{List, [], ◌∷◌}
use Rattle.std.proofs.Common.{eqb, filter, length}
use Rattle.std.proofs.lemmas.Bool.{cases_Bool, cases_lt, eq-eqb, eqb-true}
use Rattle.std.proofs.lemmas.List.Filters.{length-filter_both}
use Rattle.std.specs.List.{list_any}
use Rattle.octant_code.specs.Space.{IsUnder, Site, key_of, octant_of}
use Rattle.octant_code.proofs.Keys.{key-suc, octant-small, same_child, same_level}
use Rattle.bh_model.specs.Bodies.{IsIn, NoneTwice, numbers, without}
use Rattle.bh_model.specs.Movers.{is_under, keeps_leaf, leaf_keys_from, remaining, stay, update_counts}
use Rattle.bh_model.specs.Trees.{Body, Empty, HasCellAt, Tree, cell_count, cell_keys_from, cell_of, in_octant, octree, octree_from}
use Rattle.bh_model.proofs.AllBodies.{same_length}
use Rattle.bh_model.proofs.Cells.{ArePlaced, LieUnder, cell_at, in_octant-keeps, in_octant-member, in_octant-once, in_octant-under, keys-many}
use Rattle.bh_model.proofs.Cells.{HasTwoFrom, same_above, two_where_cell, under_root}
use Rattle.bh_model.proofs.Lists.{filter-keeps, filter-member, in_joined, in_numbers, joined, none_twice-filter, none_twice_joined}
use Rattle.bh_model.proofs.MoreThan.{more_of_two, two_of_more}
use Rattle.bh_model.proofs.Trees.{keys-body, keys-empty, octree-deep, octree-many, octree-none, octree-one}

-- ---- tests of lists

-- a list that passes has a member that does
pub any_member : (p : ℕ → Bool) (xs : List ℕ) → list_any p xs ≡ true → (n : ℕ) × IsIn xs n × (p n ≡ true)
any_member p [] e = absurd (let f : false ≡ true = e in cc)
any_member p (x ∷ xs) e = elim (cases_Bool (p x)) [
  | inl t ↦ (x, inl refl, t)
  | inr f ↦ let rest = any_member p xs (rw f at e) in (rest.0, inr rest.1, rest.2)
]

-- and with such a member it passes
pub member_any : (p : ℕ → Bool) (xs : List ℕ) (n : ℕ) → IsIn xs n → p n ≡ true → list_any p xs ≡ true
member_any p [] n i t = absurd i
member_any p (x ∷ xs) n (inl e) t = let here : p x ≡ true = subst (λ (y : ℕ). p y ≡ true) e t in rw here refl
member_any p (x ∷ xs) n (inr i) t = elim (cases_Bool (p x)) [ inl here ↦ rw here refl | inr off ↦ rw off (member_any p xs n i t) ]

-- the test of a point's cubes
pub is_under_so : (key : ℕ) (s : Site) → is_under key s ≡ true ↔ IsUnder key s
is_under_so key s = (
  (λ e.
      let f = any_member (λ level. eqb key (key_of s level)) (numbers 22) e in
      (f.0, omega (arith, (in_numbers 22 f.0).0 f.1), eqb-true key (key_of s f.0) f.2)),
  (λ u. member_any (λ level. eqb key (key_of s level)) (numbers 22) u.0 ((in_numbers 22 u.0).1 (omega (arith, u.1))) (eq-eqb key (key_of s u.0) u.2)),
)

-- ---- the leaves of an octree

pub leaf-empty : (n key : ℕ) → leaf_keys_from n Empty key ≡ []
unfolding leaf_keys_from
leaf-empty n key = refl

-- the word of a body names that body
pub leaf-body : (n m key k : ℕ) → IsIn (leaf_keys_from n (Body m) key) k ↔ ((m ≡ n) × (k ≡ key))
unfolding leaf_keys_from
leaf-body n m key k = elim (cases_Bool (eqb m n)) [
  | inl t ↦ rw t ((λ i. elim i [ inl e ↦ (eqb-true m n t, e) | inr none ↦ absurd none ]), (λ p. inl p.1))
  | inr f ↦ rw f ((λ i. absurd i), (λ p. let t : eqb m n ≡ true = eq-eqb m n p.0 in let u : true ≡ false = sym t ∙ f in cc))
]

-- the words of a cell are those of its children
pub leaf-cell : (n : ℕ) (f : ℕ → Tree) (key : ℕ) → leaf_keys_from n (cell_of f) key ≡ joined (λ k. leaf_keys_from n (f k) (8 * key + k)) 8
unfolding leaf_keys_from
leaf-cell n f key = refl

-- The key of the word of a body: its point lies in that cube, at a level, and no other body's does.
pub record IsLeaf (site : ℕ → Site) (bodies : List ℕ) (n key : ℕ) : Type 0 where
  pub depth : ℕ
  pub deep : depth ≤ 21
  pub under : key ≡ key_of (site n) depth
  pub alone : (m : ℕ) → IsIn bodies m → key ≡ key_of (site m) depth → m ≡ n

-- a word that names a body names one of the list, and has the key of its leaf
pub record HasLeaf (site : ℕ → Site) (bodies : List ℕ) (level n key : ℕ) : Type 0 where
  pub inside : IsIn bodies n
  pub leaf : IsLeaf site bodies n key
  pub low : level ≤ leaf.depth

-- the leaves of an octant are those of the cube
leaf_up : (site : ℕ → Site) (level k : ℕ) (bodies : List ℕ) (n key : ℕ) → HasLeaf site (in_octant site level k bodies) (suc level) n key
    → HasLeaf site bodies level n key
leaf_up site level k bodies n key has =
    let leaf = has.leaf in
    let own = in_octant-member site level k bodies n has.inside in
    record {
      inside = own.0;
      leaf = record {
        depth = leaf.depth;
        deep = leaf.deep;
        under = leaf.under;
        alone = λ m i e.
            let next : key_of (site m) (suc level) ≡ key_of (site n) (suc level) =
            same_above (site m) (site n) leaf.depth (suc level) has.low (sym e ∙ leaf.under) in
            let octants : octant_of (site m) level ≡ octant_of (site n) level =
            same_child (key_of (site m) level) (key_of (site n) level) (octant_of (site m) level) (octant_of (site n) level) (octant-small (site m) level)
            (octant-small (site n) level) (sym (key-suc (site m) level) ∙ next ∙ key-suc (site n) level) in
            leaf.alone m (in_octant-keeps site level bodies m k i (octants ∙ own.1)) e;
      };
      low = omega (arith, has.low);
    }

-- the words that name a body
leaf_is : (site : ℕ → Site) (below level key : ℕ) (bodies : List ℕ) (n q : ℕ) → level + below ≡ 21 → LieUnder site level key bodies
    → IsIn (leaf_keys_from n (octree_from site below level bodies) key) q → HasLeaf site bodies level n q
leaf_is site below level key [] n q sum under i =
    absurd (subst (λ (y : List ℕ). IsIn y q) (ap (λ t. leaf_keys_from n t key) (octree-none site below level) ∙ leaf-empty n key) i)
leaf_is site below level key (m ∷ []) n q sum under i =
    let f = (leaf-body n m key q).0 (subst (λ (y : Tree). IsIn (leaf_keys_from n y key) q) (octree-one site below level m) i) in
    record {
      inside = inl (sym f.0);
      leaf = record {
        depth = level;
        deep = omega arith;
        under = f.1 ∙ sym (under n (inl (sym f.0)));
        alone = λ x j e. elim j [ inl g ↦ g ∙ f.0 | inr none ↦ absurd none ];
      };
      low = omega arith;
    }
leaf_is site zero level key (m ∷ o ∷ rest) n q sum under i =
    absurd (subst (λ (y : List ℕ). IsIn y q) (ap (λ t. leaf_keys_from n t key) (octree-deep site level m o rest) ∙ leaf-empty n key) i)
leaf_is site (suc below) level key (m ∷ o ∷ rest) n q sum under i =
    let bodies : List ℕ = m ∷ o ∷ rest in
    let child : ℕ → Tree = λ k. octree_from site below (suc level) (in_octant site level k bodies) in
    let kids : ℕ → List ℕ = λ k. leaf_keys_from n (child k) (8 * key + k) in
    let j : IsIn (joined kids 8) q = subst (λ (y : List ℕ). IsIn y q)
    (ap (λ t. leaf_keys_from n t key) (octree-many site below level m o rest) ∙ leaf-cell n child key) i in
    let p = in_joined kids 8 q j in
    leaf_up site level p.part bodies n q
    (leaf_is site below (suc level) (8 * key + p.part) (in_octant site level p.part bodies) n q (omega arith)
    (in_octant-under site level key p.part bodies under) p.inside)

-- a body that keeps its leaf has its new point in the cube of its leaf
pub record Keeps (old new : ℕ → Site) (bodies : List ℕ) (n : ℕ) : Type 0 where
  pub key : ℕ
  pub leaf : IsLeaf old bodies n key
  pub again : key ≡ key_of (new n) leaf.depth

pub keeps : (old new : ℕ → Site) (bodies : List ℕ) (n : ℕ) → keeps_leaf old new bodies n ≡ true → Keeps old new bodies n
keeps old new bodies n e =
    let f = any_member (λ key. is_under key (new n)) (leaf_keys_from n (octree old bodies) 1) e in
    let has = leaf_is old 21 0 1 bodies n f.0 refl (under_root old bodies) f.1 in
    let u = (is_under_so f.0 (new n)).0 f.2 in
    let same : u.0 ≡ has.leaf.depth = same_level (new n) (old n) u.0 has.leaf.depth (sym u.2 ∙ has.leaf.under) in
    record { key = f.0; leaf = has.leaf; again = u.2 ∙ ap (key_of (new n)) same }

-- ---- what stays

-- where two bodies that keep their leaves lie in one cube at their new points, the one lies there at its old point
old_under : (old new : ℕ → Site) (bodies : List ℕ) (a b key level : ℕ) → IsIn bodies a → IsIn bodies b → a ≢ b → Keeps old new bodies a → Keeps old new bodies b
    → key ≡ key_of (new a) level → key ≡ key_of (new b) level → key ≡ key_of (old a) level
old_under old new bodies a b key level a_in b_in differ ka kb e f =
    let la : ℕ = ka.leaf.depth in
    let lb : ℕ = kb.leaf.depth in
    let own_a : key_of (old a) la ≡ key_of (new a) la = sym ka.leaf.under ∙ ka.again in
    let own_b : key_of (old b) lb ≡ key_of (new b) lb = sym kb.leaf.under ∙ kb.again in
    let together : key_of (new a) level ≡ key_of (new b) level = sym e ∙ f in
    elim (cases_lt la level) [
      | inr above ↦ e ∙ sym (same_above (old a) (new a) la level (omega arith) own_a)
      | inl deeper ↦ elim (cases_lt lb la) [
        | inl less ↦
            let up : key_of (new a) lb ≡ key_of (new b) lb = same_above (new a) (new b) level lb (omega arith) together in
            let at_old : key_of (old a) lb ≡ key_of (new a) lb = same_above (old a) (new a) la lb (omega arith) own_a in
            absurd (differ (kb.leaf.alone a a_in (kb.again ∙ sym up ∙ sym at_old)))
        | inr more ↦
            let up : key_of (new a) la ≡ key_of (new b) la = same_above (new a) (new b) level la (omega arith) together in
            let at_old : key_of (old b) la ≡ key_of (new b) la = same_above (old b) (new b) lb la (omega arith) own_b in
            absurd (differ (sym (ka.leaf.alone b b_in (ka.again ∙ up ∙ sym at_old))))
      ]
    ]

module _ (old new : ℕ → Site) (bodies : List ℕ) (once : NoneTwice bodies) (placed_old : ArePlaced old bodies) (placed_new : ArePlaced new bodies) where
  -- a body that remains is one of all
  pub remaining_in : (n : ℕ) → IsIn (remaining old new bodies) n → IsIn bodies n × (keeps_leaf old new bodies n ≡ true)
  remaining_in n i = filter-member (λ m. keeps_leaf old new bodies m) bodies n i

  -- none stands twice
  pub remaining_once : NoneTwice (remaining old new bodies)
  remaining_once = none_twice-filter (λ m. keeps_leaf old new bodies m) bodies once

  remaining_placed : ArePlaced new (remaining old new bodies)
  remaining_placed = record {
    in_cube = λ n i. placed_new.in_cube n (remaining_in n i).0;
    apart = λ a b i j e. placed_new.apart a b (remaining_in a i).0 (remaining_in b j).0 e;
  }

  -- the cells of what stays are in the octree after
  pub stay_after : (key : ℕ) → HasCellAt (stay old new bodies) key → HasCellAt (octree new bodies) key
  stay_after key has =
      let t = two_of_more ((cell_at new (remaining old new bodies) key remaining_once remaining_placed).0 has) in
      (cell_at new bodies key once placed_new).1
      (more_of_two t.one t.other ((remaining_in t.one t.one_is.0).0, t.one_is.1) ((remaining_in t.other t.other_is.0).0, t.other_is.1) t.differ)

  -- and in the one before
  pub stay_before : (key : ℕ) → HasCellAt (stay old new bodies) key → HasCellAt (octree old bodies) key
  stay_before key has =
      let t = two_of_more ((cell_at new (remaining old new bodies) key remaining_once remaining_placed).0 has) in
      let a = remaining_in t.one t.one_is.0 in
      let b = remaining_in t.other t.other_is.0 in
      let u = t.one_is.1 in
      let v = t.other_is.1 in
      let same : v.0 ≡ u.0 = same_level (new t.other) (new t.one) v.0 u.0 (sym v.2 ∙ u.2) in
      let other_key : key ≡ key_of (new t.other) u.0 = v.2 ∙ ap (key_of (new t.other)) same in
      let ka = keeps old new bodies t.one a.1 in
      let kb = keeps old new bodies t.other b.1 in
      (cell_at old bodies key once placed_old).1
      (more_of_two t.one t.other (a.0, (u.0, u.1, old_under old new bodies t.one t.other key u.0 a.0 b.0 t.differ ka kb u.2 other_key))
      (b.0, (u.0, u.1, old_under old new bodies t.other t.one key u.0 b.0 a.0 (λ e. t.differ (sym e)) kb ka other_key u.2)) t.differ)

-- ---- how many cells there are

-- no two cells of an octree have one key
pub keys_once : (site : ℕ → Site) (below level key : ℕ) (bodies : List ℕ) → level + below ≡ 21 → NoneTwice bodies → LieUnder site level key bodies
    → NoneTwice (cell_keys_from (octree_from site below level bodies) key)
keys_once site below level key [] sum once under =
    subst NoneTwice (sym (ap (λ t. cell_keys_from t key) (octree-none site below level) ∙ keys-empty key)) tt
keys_once site below level key (n ∷ []) sum once under =
    subst NoneTwice (sym (ap (λ t. cell_keys_from t key) (octree-one site below level n) ∙ keys-body n key)) tt
keys_once site zero level key (n ∷ m ∷ rest) sum once under =
    subst NoneTwice (sym (ap (λ t. cell_keys_from t key) (octree-deep site level n m rest) ∙ keys-empty key)) tt
keys_once site (suc below) level key (n ∷ m ∷ rest) sum once under =
    let bodies : List ℕ = n ∷ m ∷ rest in
    let part : ℕ → List ℕ = λ k. in_octant site level k bodies in
    let kids : ℕ → List ℕ = λ k. cell_keys_from (octree_from site below (suc level) (part k)) (8 * key + k) in
    let kid_once : (k : ℕ) → NoneTwice (part k) = λ k. in_octant-once site level k bodies once in
    let kid_under : (k : ℕ) → LieUnder site (suc level) (8 * key + k) (part k) = λ k. in_octant-under site level key k bodies under in
    let two : (k q : ℕ) → IsIn (kids k) q → HasTwoFrom site (part k) (suc level) q = λ k q i.
    two_where_cell site below (suc level) (8 * key + k) (part k) q (omega arith) (kid_once k) (kid_under k) i in
    let apart : (i j q : ℕ) → i < 8 → j < 8 → IsIn (kids i) q → IsIn (kids j) q → i ≡ j = λ i j q p r x y.
    let s = two i q x in
    let t = two j q y in
    let one : Site = site s.one in
    let other : Site = site t.one in
    let depths : t.depth ≡ s.depth = same_level other one t.depth s.depth (sym t.one_key ∙ s.one_key) in
    let same : key_of one s.depth ≡ key_of other s.depth = sym s.one_key ∙ t.one_key ∙ ap (key_of other) depths in
    let next : key_of one (suc level) ≡ key_of other (suc level) = same_above one other s.depth (suc level) s.low same in
    let mine : octant_of one level ≡ i = (in_octant-member site level i bodies s.one s.one_in).1 in
    let yours : octant_of other level ≡ j = (in_octant-member site level j bodies t.one t.one_in).1 in
    let both : octant_of one level ≡ octant_of other level =
    same_child (key_of one level) (key_of other level) (octant_of one level) (octant_of other level) (octant-small one level) (octant-small other level)
    (sym (key-suc one level) ∙ next ∙ key-suc other level) in
    omega (arith, mine, yours, both) in
    subst NoneTwice (sym (keys-many site below level key n m rest)) (
      (λ i.
          let p = in_joined kids 8 key i in
          let s = two p.part key p.inside in
          let own : key_of (site s.one) s.depth ≡ key_of (site s.one) level =
          sym s.one_key ∙ sym (under s.one (in_octant-member site level p.part bodies s.one s.one_in).0) in
          omega (arith, s.low, same_level (site s.one) (site s.one) s.depth level own)),
      none_twice_joined kids 8 (λ k l. keys_once site below (suc level) (8 * key + k) (part k) (omega arith) (kid_once k) (kid_under k)) apart,
    )

-- a list of which another has some members is as long as those and the others
pub with_without : (xs ys : List ℕ) → NoneTwice xs → NoneTwice ys → ((n : ℕ) → IsIn ys n → IsIn xs n) → length xs ≡ length ys + length (without xs ys)
with_without xs ys once other part =
    let has : ℕ → Bool = λ n. list_any (λ x. eqb x n) ys in
    let there : (n : ℕ) → has n ≡ true → IsIn ys n = λ n e.
    let f = any_member (λ x. eqb x n) ys e in subst (λ (y : ℕ). IsIn ys y) (eqb-true f.0 n f.2) f.1 in
    let common : length (filter has xs) ≡ length ys =
    same_length (filter has xs) ys (none_twice-filter has xs once) other (λ n i. there n (filter-member has xs n i).1)
    (λ n i. filter-keeps has xs n (part n i) (member_any (λ x. eqb x n) ys n i (eq-eqb n n refl))) in
    omega (arith, common, length-filter_both has (λ n. not (has n)) (λ n. refl) xs)

-- the cells of the octrees before and after are those of what stays and the counted ones
pub counts_are : (old new : ℕ → Site) (bodies : List ℕ) → NoneTwice bodies → ArePlaced old bodies → ArePlaced new bodies
    → (cell_count (octree old bodies) ≡ cell_count (stay old new bodies) + (update_counts old new bodies).freed)
    × (cell_count (octree new bodies) ≡ cell_count (stay old new bodies) + (update_counts old new bodies).taken)
counts_are old new bodies once placed_old placed_new =
    let once_of : (site : ℕ → Site) (xs : List ℕ) → NoneTwice xs → NoneTwice (cell_keys_from (octree site xs) 1) = λ site xs d.
    keys_once site 21 0 1 xs refl d (under_root site xs) in
    let stays = once_of new (remaining old new bodies) (remaining_once old new bodies once placed_old placed_new) in (
      with_without (cell_keys_from (octree old bodies) 1) (cell_keys_from (stay old new bodies) 1) (once_of old bodies once) stays
          (stay_before old new bodies once placed_old placed_new),
      with_without (cell_keys_from (octree new bodies) 1) (cell_keys_from (stay old new bodies) 1) (once_of new bodies once) stays
          (stay_after old new bodies once placed_old placed_new),
    )
