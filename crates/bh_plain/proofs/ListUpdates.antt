-- What the plain program's lists say of the leaves and the cells of octrees.
use Rattle.std.proofs.Common.{ℕ, ◌+◌, ◌-◌, ◌*◌, ◌<◌, ◌≤◌, ◌≡◌, ◌≢◌, ◌⊎◌, refl, sym, ◌∙◌, ap, subst, inl, inr, arith, append_assoc, Bool}
use Rattle.std.proofs.Common.{All, ◌^◌, true, false, not, List, [], ◌∷◌, ◌++◌, eqb, get_or, length, nat_eq, take}
use Rattle.std.proofs.lemmas.Bool.{cases_lt, eq-eqb}
use Rattle.std.proofs.lemmas.List.{length-take}
use Rattle.std.proofs.lemmas.List.Elements.{All-filter}
use Rattle.std.proofs.lemmas.List.Filters.{length-filter_both}
use Rattle.std.proofs.lemmas.List.Folds.{list_any-append}
use Rattle.std.proofs.lemmas.List.Sums.{count_by-le-length, length-filter}
use Rattle.std.specs.List.{list_any}
use Rattle.octant_code.specs.Space.{Site, key_of}
use Rattle.bh_model.specs.Bodies.{numbers, without}
use Rattle.bh_model.specs.Movers.{cells_without, is_under, keeps_leaf, leaf_keys_from, movers, remaining, stay, update_counts}
use Rattle.bh_model.specs.Trees.{Body, Tree, cell_keys_from, octree, octree_from}
use Rattle.bh_model.proofs.CellCounts.{cells_by_levels}
use Rattle.bh_model.proofs.Equal.{not-eqb}
use Rattle.bh_model.proofs.Lists.{in_numbers, joined, numbers_more}
use Rattle.bh_model.proofs.Movers.{leaf-cell, leaf-empty, member_any}
use Rattle.bh_model.proofs.Splits.{empty_tree, octant_trees, one_tree, split_tree}
use Rattle.bh_model.proofs.Trees.{keys-body, keys-cell, keys-empty}

-- ---- leaves

-- the leaves of a body in the octants of a list at a level
abbrev pub octant_leaves : (ℕ → Site) → ℕ → ℕ → ℕ → List ℕ → ℕ → List ℕ
octant_leaves site n level key bodies k = leaf_keys_from n (octant_trees site level bodies k) (8 * key + k)

-- those of two bodies or more are the octants' in turn
pub leaves_of_split : (site : ℕ → Site) (n level key : ℕ) (bodies : List ℕ) → level < 21 → length bodies ≢ 0 → length bodies ≢ 1
    → leaf_keys_from n (octree_from site (21 - level) level bodies) key ≡ joined (octant_leaves site n level key bodies) 8
leaves_of_split site n level key bodies deep some many =
    ap (λ (t : Tree). leaf_keys_from n t key) (split_tree site level bodies deep some many) ∙ leaf-cell n (octant_trees site level bodies) key

-- there are none where there is no body, and where more than one are left at the deepest level
pub leaves_of_empty : (site : ℕ → Site) (n level key : ℕ) (bodies : List ℕ) → length bodies ≢ 1 → (length bodies ≡ 0) ⊎ (level ≡ 21)
    → leaf_keys_from n (octree_from site (21 - level) level bodies) key ≡ []
leaves_of_empty site n level key bodies many why = ap (λ (t : Tree). leaf_keys_from n t key) (empty_tree site level bodies many why) ∙ leaf-empty n key

own_leaf : (n m key : ℕ) → m ≡ n → leaf_keys_from n (Body m) key ≡ key ∷ []
unfolding leaf_keys_from
own_leaf n m key e = let t : eqb m n ≡ true = eq-eqb m n e in rw t refl

other_leaf : (n m key : ℕ) → m ≢ n → leaf_keys_from n (Body m) key ≡ []
unfolding leaf_keys_from
other_leaf n m key e = let f : eqb m n ≡ false = not-eqb m n e in rw f refl

-- one body has a leaf, of which its cube's key is the key
pub leaf_of_one : (site : ℕ → Site) (n below level key : ℕ) (bodies : List ℕ) → length bodies ≡ 1 → get_or bodies 0 0 ≡ n
    → leaf_keys_from n (octree_from site below level bodies) key ≡ key ∷ []
leaf_of_one site n below level key bodies one own =
    ap (λ (t : Tree). leaf_keys_from n t key) (one_tree site below level bodies one) ∙ own_leaf n (get_or bodies 0 0) key own

-- and no other body has one there
pub leaf_of_other : (site : ℕ → Site) (n below level key : ℕ) (bodies : List ℕ) → length bodies ≡ 1 → get_or bodies 0 0 ≢ n
    → leaf_keys_from n (octree_from site below level bodies) key ≡ []
leaf_of_other site n below level key bodies one other =
    ap (λ (t : Tree). leaf_keys_from n t key) (one_tree site below level bodies one) ∙ other_leaf n (get_or bodies 0 0) key other

-- ---- cells

-- the cells of the octants of a list at a level
abbrev pub octant_cells : (ℕ → Site) → ℕ → ℕ → List ℕ → ℕ → List ℕ
octant_cells site level key bodies k = cell_keys_from (octant_trees site level bodies k) (8 * key + k)

-- those of two bodies or more are the cube's and the octants' in turn
pub cells_of_split : (site : ℕ → Site) (level key : ℕ) (bodies : List ℕ) (before after : List ℕ) → level < 21 → 1 < length bodies
    → after ≡ (before ++ key ∷ []) ++ joined (octant_cells site level key bodies) 8
    → after ≡ before ++ cell_keys_from (octree_from site (21 - level) level bodies) key
cells_of_split site level key bodies before after deep many e =
    e ∙ append_assoc before (key ∷ []) (joined (octant_cells site level key bodies) 8)
    ∙ ap (λ (y : List ℕ). before ++ y) (sym
    (ap (λ (t : Tree). cell_keys_from t key) (split_tree site level bodies deep (omega arith) (omega arith)) ∙ keys-cell (octant_trees site level bodies) key))

-- there are none of fewer bodies, and none at the deepest level
pub cells_of_few : (site : ℕ → Site) (level key : ℕ) (bodies : List ℕ) → (length bodies ≤ 1) ⊎ (level ≡ 21)
    → cell_keys_from (octree_from site (21 - level) level bodies) key ≡ []
cells_of_few site level key bodies few =
    elim (cases_lt 1 (length bodies)) [
      | inl many ↦
          ap (λ (t : Tree). cell_keys_from t key) (empty_tree site level bodies (omega arith) (elim few [ inl f ↦ absurd (omega arith) | inr e ↦ inr e ]))
          ∙ keys-empty key
      | inr less ↦ elim (cases_lt 0 (length bodies)) [
        | inl some ↦
            ap (λ (t : Tree). cell_keys_from t key) (one_tree site (21 - level) level bodies (omega arith)) ∙ keys-body (get_or bodies 0 0) key
        | inr none ↦
            ap (λ (t : Tree). cell_keys_from t key) (empty_tree site level bodies (omega arith) (inl (omega arith))) ∙ keys-empty key
      ]
    ]

-- ---- the test of a point's cubes

-- one level more that is not the key's
pub levels_more : (key : ℕ) (s : Site) (level : ℕ) → list_any (λ l. nat_eq key (key_of s l)) (numbers level) ≡ false → key ≢ key_of s level
    → list_any (λ l. nat_eq key (key_of s l)) (numbers (level + 1)) ≡ false
levels_more key s level none apart =
    let p : ℕ → Bool = λ l. eqb key (key_of s l) in
    let off : p level ≡ false = not-eqb key (key_of s level) apart in
    ap (list_any p) (numbers_more level) ∙ list_any-append p (numbers level) (level ∷ []) ∙ rw (none, off) refl

-- no level is the key's before the first
pub levels_none : (key : ℕ) (s : Site) → list_any (λ l. nat_eq key (key_of s l)) (numbers 0) ≡ false
unfolding numbers
levels_none key s = refl

-- a level that is the key's
pub level_found : (key : ℕ) (s : Site) (level : ℕ) → level < 22 → key ≡ key_of s level → true ≡ is_under key s
level_found key s level small e =
    sym (member_any (λ l. eqb key (key_of s l)) (numbers 22) level ((in_numbers 22 level).1 small) (eq-eqb key (key_of s level) e))

-- ---- lists of keys

-- a part of a list has no more members that others don't have than it has
pub without_few : (keys others : List ℕ) (i : ℕ) → length (without (take i keys) others) ≤ i
without_few keys others i = omega (
  arith,
  length-filter (λ n. not (list_any (λ x. eqb x n) others)) (take i keys),
  count_by-le-length (λ n. not (list_any (λ x. eqb x n) others)) (take i keys),
  length-take i keys,
)

-- ---- the counts

-- the bodies that remain are some of all
pub remaining_within : (old new : ℕ → Site) (bodies part : List ℕ) (most : ℕ) → part ≡ remaining old new bodies → All (λ n. n < most) bodies
    → All (λ n. n < most) part
remaining_within old new bodies part most e within =
    subst (λ (y : List ℕ). All (λ n. n < most) y) (sym e) (All-filter (λ n. keeps_leaf old new bodies n) (λ n. n < most) bodies within)

-- all bodies are those that leave and those that remain
pub left_is : (old new : ℕ → Site) (bodies part : List ℕ) → part ≡ remaining old new bodies → length bodies ≡ length (movers old new bodies) + length part
left_is old new bodies part e =
    let keeps : ℕ → Bool = λ n. keeps_leaf old new bodies n in
    omega (arith, length-filter_both keeps (λ n. not (keeps n)) (λ n. refl) bodies, ap length e)

-- a list of the keys of the cells of few bodies is not long
pub few_keys : (site : ℕ → Site) (bodies keys : List ℕ) → keys ≡ cell_keys_from (octree site bodies) 1 → length bodies ≤ 65536 → length keys < 2 ^ 32
few_keys site bodies keys e few = omega (arith, ap length e, cells_by_levels site 21 0 bodies)

-- the counts by their parts
pub counts_by_parts : (old new : ℕ → Site) (bodies : List ℕ) (left freed taken : ℕ) → left ≡ length (movers old new bodies)
    → freed ≡ cells_without (octree old bodies) (stay old new bodies) → taken ≡ cells_without (octree new bodies) (stay old new bodies)
    → record { left = left; freed = freed; taken = taken } ≡ update_counts old new bodies
counts_by_parts old new bodies left freed taken a b c = rw (a, b, c) refl

-- how many keys of one list are not in another
pub without_same : (xs ys keys others : List ℕ) (count : ℕ) → count ≡ length (without xs ys) → xs ≡ keys → ys ≡ others → count ≡ length (without keys others)
without_same xs ys keys others count e f g = e ∙ ap (λ (z : List ℕ). length (without z ys)) f ∙ ap (λ (z : List ℕ). length (without keys z)) g
