-- Where a body's own node stands in the flat table: in the part of a cell exactly where the body's point is in the cell's cube.
use Rattle.std.proofs.Common.{ℕ, ◌+◌, ◌-◌, ◌*◌, ◌<◌, ◌≤◌, ◌≡◌, ◌≢◌, ◌⊎◌, zero, suc, true, false, eqb, List, [], ◌∷◌, length, get_or}
use Rattle.std.proofs.Common.{refl, sym, ap, ◌∙◌, subst, arith, inl, inr, add-one}
use Rattle.std.proofs.lemmas.Bool.{cases_eq, cases_lt}
use Rattle.std.proofs.lemmas.Bool.Decides.{nat_tests}
use Rattle.std.proofs.lemmas.List.{get_or-append_right, get_or_append_left, get_or_past}
use Rattle.octant_code.specs.Space.{Site, key_of, octant_of}
use Rattle.octant_code.proofs.Keys.{key-suc, octant-small, same_child, same_parent}
use Rattle.bh_model.specs.Bodies.{IsIn}
use Rattle.bh_model.specs.Trees.{Body, Cell, Empty, Tree, cell_of, octree_from, order}
use Rattle.bh_model.proofs.Cells.{LieUnder, in_octant-under}
use Rattle.bh_model.proofs.Folds.{length_joined, nth}
use Rattle.bh_model.proofs.Lists.{in_joined, joined, joined_in}
use Rattle.bh_model.proofs.Totals.{each_of_eight, sum_upto, sum_upto-le, sum_upto-more}
use Rattle.bh_model.proofs.Trees.{octree-deep, octree-many, octree-none, octree-one}
use Rattle.force_walk.specs.Flat.{holds, owners}

-- ---- whose node stands where

-- whose nodes the children of a cell have
abbrev pub child_owners : (ℕ → Tree) → ℕ → List ℕ
child_owners child k = owners (child k)

-- how many nodes they have
abbrev pub child_nodes : (ℕ → Tree) → ℕ → ℕ
child_nodes child k = length (owners (child k))

pub owners_none : owners Empty ≡ []
unfolding owners
owners_none = refl

pub owners_one : (n : ℕ) → owners (Body n) ≡ suc n ∷ []
unfolding owners
owners_one n = refl

pub owners_cell : (child : ℕ → Tree) → owners (cell_of child) ≡ 0 ∷ joined (child_owners child) 8
unfolding owners
owners_cell child = refl

pub owners_count : (child : ℕ → Tree) → length (owners (cell_of child)) ≡ 1 + sum_upto (child_nodes child) 8
owners_count child = omega (arith, ap length (owners_cell child), length_joined (child_owners child) 8)

-- each body of a tree has a node
pub has_node : (t : Tree) (n : ℕ) → IsIn (order t) n → IsIn (owners t) (suc n)
unfolding order owners
has_node Empty n i = absurd i
has_node (Body j) n i = elim i [ inl e ↦ inl (ap suc e) | inr none ↦ absurd none ]
has_node (Cell a b c d e f g h) n i =
    let kid : ℕ → Tree = nth a b c d e f g h in
    let at = in_joined (λ k. order (kid k)) 8 n i in
    let P : ℕ → Type 0 = λ k. IsIn (order (kid k)) n → IsIn (owners (kid k)) (suc n) in
    inr
    (joined_in (child_owners kid) 8 at.part (suc n) at.small
    (each_of_eight P (has_node a n) (has_node b n) (has_node c n) (has_node d n) (has_node e n) (has_node f n) (has_node g n) (has_node h n) at.part at.small
    at.inside))

-- what is read at a place of a list is a member of it
read_in : (xs : List ℕ) (i n : ℕ) → get_or xs i 0 ≡ suc n → IsIn xs (suc n)
read_in [] i n e = absurd (omega (arith, e))
read_in (x ∷ xs) zero n e = inl (sym e)
read_in (x ∷ xs) (suc i) n e = inr (read_in xs i n e)

-- and its place is within the list
pub read_within : (xs : List ℕ) (i n : ℕ) → get_or xs i 0 ≡ suc n → i < length xs
read_within xs i n e = elim (cases_lt i (length xs)) [ inl l ↦ l | inr past ↦ absurd (omega (arith, e, get_or_past xs i 0 past)) ]

-- what is read behind a cell's own node
read_behind : (xs : List ℕ) (i n : ℕ) → get_or (0 ∷ xs) i 0 ≡ suc n → (j : ℕ) × (i ≡ suc j) × (get_or xs j 0 ≡ suc n)
read_behind xs zero n e = absurd (omega (arith, e))
read_behind xs (suc j) n e = (j, refl, e)

-- what is read in joined lists is read in one of them
record IsReadIn (g : ℕ → List ℕ) (m i n : ℕ) : Type 0 where
  pub part : ℕ
  pub offset : ℕ
  pub small : part < m
  pub place : i ≡ sum_upto (λ j. length (g j)) part + offset
  pub own : get_or (g part) offset 0 ≡ suc n

read_joined : (g : ℕ → List ℕ) (m i n : ℕ) → get_or (joined g m) i 0 ≡ suc n → IsReadIn g m i n
read_joined g zero i n e = absurd (omega (arith, e))
read_joined g (suc m) i n e =
    elim (cases_lt i (length (joined g m))) [
      | inl l ↦
          let r = read_joined g m i n (sym (get_or_append_left (joined g m) (g m) 0 i l) ∙ e) in
          record { part = r.part; offset = r.offset; small = omega (arith, r.small); place = r.place; own = r.own }
      | inr past ↦
          let long : length (joined g m) ≡ sum_upto (λ j. length (g j)) m = length_joined g m in
          record {
            part = m;
            offset = i - length (joined g m);
            small = omega arith;
            place = omega (arith, long);
            own = sym (get_or-append_right (joined g m) (g m) (length (joined g m)) i 0 refl past) ∙ e;
          }
    ]

-- ---- the bodies of a tree lie in its cube

-- the point of each body of a tree lies in the cube that has the body's place in the tree, where the tree's cube is of a level and has a key
unfoldable pub Lies : (ℕ → Site) → ℕ → ℕ → Tree → Type 0
Lies site level key Empty = Unit {0}
Lies site level key (Body n) = key_of (site n) level ≡ key
Lies site level key (Cell a b c d e f g h) =
    Lies site (suc level) (8 * key + 0) a × Lies site (suc level) (8 * key + 1) b × Lies site (suc level) (8 * key + 2) c
    × Lies site (suc level) (8 * key + 3) d × Lies site (suc level) (8 * key + 4) e × Lies site (suc level) (8 * key + 5) f
    × Lies site (suc level) (8 * key + 6) g × Lies site (suc level) (8 * key + 7) h

lies_cell : (site : ℕ → Site) (level key : ℕ) (child : ℕ → Tree) → ((k : ℕ) → k < 8 → Lies site (suc level) (8 * key + k) (child k))
    → Lies site level key (cell_of child)
unfolding Lies
lies_cell site level key child each = (
  each 0 (omega arith),
  each 1 (omega arith),
  each 2 (omega arith),
  each 3 (omega arith),
  each 4 (omega arith),
  each 5 (omega arith),
  each 6 (omega arith),
  each 7 (omega arith),
)

pub child_lies : (site : ℕ → Site) (level key : ℕ) (child : ℕ → Tree) → Lies site level key (cell_of child) → (k : ℕ) → k < 8
    → Lies site (suc level) (8 * key + k) (child k)
unfolding Lies
child_lies site level key child lies =
    each_of_eight (λ k. Lies site (suc level) (8 * key + k) (child k)) lies.0 lies.1 lies.2 lies.3 lies.4 lies.5 lies.6 lies.7

-- those of an octree do
pub lies_of_list : (site : ℕ → Site) (below level key : ℕ) (bodies : List ℕ) → LieUnder site level key bodies
    → Lies site level key (octree_from site below level bodies)
unfolding Lies
lies_of_list site below level key [] under = subst (Lies site level key) (sym (octree-none site below level)) tt
lies_of_list site below level key (n ∷ []) under = subst (Lies site level key) (sym (octree-one site below level n)) (under n (inl refl))
lies_of_list site zero level key (n ∷ m ∷ rest) under = subst (Lies site level key) (sym (octree-deep site level n m rest)) tt
lies_of_list site (suc below) level key (n ∷ m ∷ rest) under =
    subst (Lies site level key) (sym (octree-many site below level n m rest))
    (lies_cell site level key _
    (λ k small. lies_of_list site below (suc level) (8 * key + k) _ (in_octant-under site level key k (n ∷ m ∷ rest) under)))

-- so each body with a node lies in the tree's cube
pub owner_lies : (site : ℕ → Site) (level key : ℕ) (t : Tree) (n : ℕ) → Lies site level key t → IsIn (owners t) (suc n) → key_of (site n) level ≡ key
unfolding Lies owners
owner_lies site level key Empty n lies i = absurd i
owner_lies site level key (Body j) n lies i =
    elim i [ inl e ↦ (let same : n ≡ j = omega (arith, e) in ap (λ b. key_of (site b) level) same ∙ lies) | inr none ↦ absurd none ]
owner_lies site level key (Cell a b c d e f g h) n lies i =
    let kid : ℕ → Tree = nth a b c d e f g h in
    elim i [
      | inl own ↦ absurd (omega (arith, own))
      | inr below ↦
          let at = in_joined (child_owners kid) 8 (suc n) below in
          let P : ℕ → Type 0 = λ k. IsIn (owners (kid k)) (suc n) → key_of (site n) (suc level) ≡ 8 * key + k in
          let next : ℕ → ℕ = λ k. 8 * key + k in
          let deeper = each_of_eight P (owner_lies site (suc level) (next 0) a n lies.0) (owner_lies site (suc level) (next 1) b n lies.1)
          (owner_lies site (suc level) (next 2) c n lies.2) (owner_lies site (suc level) (next 3) d n lies.3)
          (owner_lies site (suc level) (next 4) e n lies.4) (owner_lies site (suc level) (next 5) f n lies.5)
          (owner_lies site (suc level) (next 6) g n lies.6) (owner_lies site (suc level) (next 7) h n lies.7) at.part at.small at.inside in
          same_parent (key_of (site n) level) key (octant_of (site n) level) at.part (octant-small (site n) level) at.small
          (sym (key-suc (site n) level) ∙ deeper)
    ]

-- ---- the place of a body's own node

-- the own node of a body stands in the part of a table that begins at a place and has the nodes of a tree
pub record HasOwn (t : Tree) (n place at : ℕ) : Type 0 where
  pub offset : ℕ
  pub is : place ≡ at + offset
  pub own : get_or (owners t) offset 0 ≡ suc n

-- it stands there where the body lies in the tree's cube, and else outside
pub record Sees (site : ℕ → Site) (t : Tree) (n place at level key : ℕ) : Type 0 where
  pub inside : key_of (site n) level ≡ key → HasOwn t n place at
  pub outside : key_of (site n) level ≢ key → holds at (length (owners t)) place ≡ false

holds_true : (at skip place : ℕ) → at ≤ place → place < at + skip → holds at skip place ≡ true
holds_true at skip place low high = grind (arith, nat_tests)

holds_false : (at skip place : ℕ) → (place < at) ⊎ (at + skip ≤ place) → holds at skip place ≡ false
holds_false at skip place out = elim out [ inl low ↦ grind (arith, nat_tests) | inr high ↦ grind (arith, nat_tests) ]

is_outside : (at skip place : ℕ) → holds at skip place ≡ false → (place < at) ⊎ (at + skip ≤ place)
is_outside at skip place e =
    elim (cases_lt place at) [
      | inl low ↦ inl low
      | inr l ↦
          elim (cases_lt place (at + skip)) [
            | inl h ↦ (let t = holds_true at skip place l h in absurd (cc))
            | inr high ↦ inr high
          ]
    ]

-- so a cell's nodes hold the place exactly where the cell's cube has the body
pub sees_holds : (site : ℕ → Site) (t : Tree) (n place at level key : ℕ) → Sees site t n place at level key
    → holds at (length (owners t)) place ≡ eqb (key_of (site n) level) key
sees_holds site t n place at level key sees =
    elim (cases_eq (key_of (site n) level) key) [
      | inl same ↦
          let own = sees.inside same in
          let within = read_within (owners t) own.offset n own.own in
          holds_true at (length (owners t)) place (omega (arith, own.is)) (omega (arith, own.is, within)) ∙ sym (grind (arith, nat_tests))
      | inr other ↦ sees.outside other ∙ sym (grind (arith, nat_tests))
    ]

-- where the nodes of a child begin
abbrev pub child_start : (ℕ → Tree) → ℕ → ℕ → ℕ
child_start child at k = at + 1 + sum_upto (child_nodes child) k

pub start_more : (child : ℕ → Tree) (at k : ℕ) → child_start child at (suc k) ≡ child_start child at k + child_nodes child k
unfolding sum_upto
start_more child at k = omega arith

-- the same for each child of a cell
pub child_sees : (site : ℕ → Site) (child : ℕ → Tree) (n place at level key : ℕ) → Lies site level key (cell_of child)
    → Sees site (cell_of child) n place at level key → (k : ℕ) → k < 8 → Sees site (child k) n place (child_start child at k) (suc level) (8 * key + k)
child_sees site child n place at level key lies sees k small =
    let deeper : key_of (site n) (suc level) ≡ 8 * key_of (site n) level + octant_of (site n) level = key-suc (site n) level in
    let octant : octant_of (site n) level < 8 = octant-small (site n) level in
    let sizes : ℕ → ℕ = child_nodes child in
    let more : sum_upto sizes (suc k) ≡ sum_upto sizes k + sizes k = ap (sum_upto sizes) (sym (add-one k)) ∙ sum_upto-more sizes k in
    let front : sum_upto sizes (suc k) ≤ sum_upto sizes 8 = sum_upto-le sizes (suc k) 8 (omega arith) in
    let long = owners_count child in
    elim (cases_eq (key_of (site n) level) key) [
      | inr other ↦
          record {
            inside = λ e. absurd (other (same_parent (key_of (site n) level) key (octant_of (site n) level) k octant small (sym deeper ∙ e)));
            outside = λ _. holds_false (child_start child at k) (sizes k) place
                (elim (is_outside at (length (owners (cell_of child))) place (sees.outside other)) [
                  | inl low ↦ inl (omega arith)
                  | inr high ↦ inr (omega arith)
                ]);
          }
      | inl same ↦
          let own = sees.inside same in
          let read : get_or (0 ∷ joined (child_owners child) 8) own.offset 0 ≡ suc n = sym (ap (λ l. get_or l own.offset 0) (owners_cell child)) ∙ own.own in
          let behind = read_behind (joined (child_owners child) 8) own.offset n read in
          let at_child = read_joined (child_owners child) 8 behind.0 n behind.2 in
          let there : key_of (site n) (suc level) ≡ 8 * key + at_child.part =
          owner_lies site (suc level) (8 * key + at_child.part) (child at_child.part) n (child_lies site level key child lies at_child.part at_child.small)
          (read_in (owners (child at_child.part)) at_child.offset n at_child.own) in
          let within = read_within (owners (child at_child.part)) at_child.offset n at_child.own in
          let stands : place ≡ child_start child at at_child.part + at_child.offset = omega (arith, own.is, behind.1, at_child.place) in
          record {
            inside = λ e.
                let part : at_child.part ≡ k = same_child key key at_child.part k at_child.small small (sym there ∙ e) in
                subst (λ (j : ℕ). HasOwn (child j) n place (child_start child at j)) part
                (record { offset = at_child.offset; is = stands; own = at_child.own });
            outside = λ e. holds_false (child_start child at k) (sizes k) place
                (elim (cases_lt k at_child.part) [
                  | inl before ↦ inr (let le = sum_upto-le sizes (suc k) at_child.part (omega arith) in omega arith)
                  | inr not_before ↦
                      let other : at_child.part ≢ k = λ (same_part : at_child.part ≡ k). e (there ∙ ap (λ j. 8 * key + j) same_part) in
                      let next : sum_upto sizes (suc at_child.part) ≡ sum_upto sizes at_child.part + sizes at_child.part =
                      ap (sum_upto sizes) (sym (add-one at_child.part)) ∙ sum_upto-more sizes at_child.part in
                      let le = sum_upto-le sizes (suc at_child.part) k (omega arith) in inl (omega arith)
                ]);
          }
    ]

-- the own node of one body
pub own_body : (j n place at : ℕ) → HasOwn (Body j) n place at → j ≡ n
unfolding owners
own_body j n place at own =
    elim (read_in (owners (Body j)) own.offset n own.own) [ inl e ↦ omega (arith, e) | inr none ↦ absurd none ]
