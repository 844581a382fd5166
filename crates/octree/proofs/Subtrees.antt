-- What is known of a word that is read on the way down from the root of an octree.
use Rattle.std.proofs.Common.{ℕ, zero, suc, ◌+◌, ◌-◌, ◌*◌, ◌^◌, ◌<◌, ◌≤◌, ◌≡◌, ◌⊎◌, ◌↔◌, List, [], ◌∷◌, refl, sym, ◌∙◌, ap, subst, arith, inl, inr}
use Rattle.std.proofs.Common.{add-one}
use Rattle.std.proofs.Math.Nat.{pow-suc}
use Rattle.std.proofs.lemmas.Bool.{cases_lt}
use Rattle.octant_code.proofs.Keys.{pow8-mono}
use Rattle.bh_model.proofs.Folds.{height-body, height-empty, height_falls, height_within}
use Rattle.bh_model.proofs.MoreThan.{one_of_more}
use Rattle.bh_model.proofs.Lists.{in_joined, joined_in}
use Rattle.bh_model.proofs.Trees.{cell_of-same, order-body, order-cell, order-empty}
use Rattle.bh_model.specs.Bodies.{IsIn}
use Rattle.bh_model.specs.Trees.{Tree, cell_of, height, order}
use Rattle.tree_rule.proofs.Laws.{ACell, Deeper, IsKeyBelow, NoBody, OneBody, Same, WordIs, child_in_child, comparable, forget, tree-body, tree-cell}
use Rattle.tree_rule.proofs.Laws.{cells-cell, cells_read, tree-empty, word_is}
use Rattle.tree_rule.specs.Sound.{BelowAs, HereAs, IsReachedAs}
use Rattle.tree_rule.specs.Words.{Below, HasBody, HasCell, Here, IsReached, at_of, body_word, cell_number, cell_word, cells_from, child_place, tree_from}
use Rattle.octree.specs.Stored.{IsStored, Stored, cells_of, root_word, tree_of, tree_of_word}
use Rattle.octree.specs.Spot.{IsCellUnder, IsSpot, IsUnderChild, Spot, cell_at, child_under, tree_under}
use Rattle.octree.specs.Subtree.{HasParts, IsBodyAt, IsCellAt, IsChildOf, IsNothingAt}
use Rattle.octree.proofs.ReadWords.{word_small}

-- a spot by its parts
abbrev pub spot_at : Stored → ℕ → Spot
spot_at o word = record { octree = o; word = word }

-- the root is a spot
unfoldable pub root_spot : (o : Stored) → IsStored o → IsSpot (spot_at o (root_word o))
root_spot o stored = record {
  stored = stored;
  key = o.base;
  level = o.level;
  read = HereAs o.base (root_word o) refl refl;
  shallow = stored.shallow;
  low = stored.base_low;
}

-- the word of a spot is read
spot_read : (s : Spot) (r : IsSpot s) → IsReached (at_of s.octree.words) (root_word s.octree) s.word
spot_read s r = forget (at_of s.octree.words) (root_word s.octree) s.octree.base r.key s.word r.read

-- and it fits
pub spot_small : (s : Spot) → IsSpot s → s.word < 2 ^ 33
spot_small s r = word_small s.octree s.word r.stored (spot_read s r)

-- its key is not 0
spot_positive : (s : Spot) (r : IsSpot s) → 1 ≤ r.key
spot_positive s r = omega (arith, r.low, pow8-mono 0 r.level (omega arith))

-- ---- a word that names a cell

module _ (o : Stored) (w c : ℕ) (e : w ≡ cell_word c) (r : IsSpot (spot_at o w)) where
  -- the cell is read
  cell_read : IsReachedAs (at_of o.words) (root_word o) o.base r.key (cell_word c)
  cell_read = subst (λ (y : ℕ). IsReachedAs (at_of o.words) (root_word o) o.base r.key y) e r.read

  -- it is not of the last level
  cell_low : r.level < 21
  cell_low = elim (cases_lt r.level 21) [
    | inl low ↦ low
    | inr deep ↦ absurd (omega (arith, r.stored.sound.shallow r.key c cell_read, r.low, pow8-mono 21 r.level deep))
  ]

  -- it can be reached
  pub cell_reached : HasCell o.words c
  cell_reached = forget (at_of o.words) (root_word o) o.base r.key (cell_word c) cell_read

  -- its words are in the list
  pub cell_fits : c < o.used
  cell_fits = r.stored.cells_used c cell_reached

  -- a child of it is a spot
  pub child_spot : (k : ℕ) → k < 8 → IsSpot (spot_at o (at_of o.words (child_place c k)))
  child_spot k small = record {
    stored = r.stored;
    key = 8 * r.key + k;
    level = r.level + 1;
    read = BelowAs c k r.key (8 * r.key + k) (at_of o.words (child_place c k)) cell_read small refl refl;
    shallow = omega (arith, cell_low);
    low = omega (arith, r.low, pow-suc 8 r.level, ap (λ l. 8 ^ l) (add-one r.level));
  }

-- read deeper than there are levels left, a word has the same tree
pub deep_enough : (o : Stored) (below w : ℕ) → WordIs w → (r : IsSpot (spot_at o w)) → 22 ≤ r.level + below
    → tree_from (at_of o.words) (suc below) w ≡ tree_from (at_of o.words) below w
unfolding child_spot
deep_enough o zero w is r deep = absurd (omega (arith, r.shallow))
deep_enough o (suc below) w (NoBody e) r deep = rw e (tree-empty (at_of o.words) (suc below) ∙ sym (tree-empty (at_of o.words) below))
deep_enough o (suc below) w (OneBody n e) r deep = rw e (tree-body (at_of o.words) (suc below) n ∙ sym (tree-body (at_of o.words) below n))
deep_enough o (suc below) w (ACell c e) r deep =
    let at : ℕ → ℕ = at_of o.words in
    ap (tree_from at (suc (suc below))) e ∙ tree-cell at (suc below) c
    ∙ cell_of-same (λ k. tree_from at (suc below) (at (child_place c k))) (λ k. tree_from at below (at (child_place c k)))
    (λ k small. deep_enough o below (at (child_place c k)) (word_is (at (child_place c k))) (child_spot o w c e r k small) (omega arith))
    ∙ sym (ap (tree_from at (suc below)) e ∙ tree-cell at below c)

-- the tree of a cell is the cell of its children's trees
pub cell_tree : (o : Stored) (w c : ℕ) (e : w ≡ cell_word c) → IsSpot (spot_at o w)
    → tree_of_word o w ≡ cell_of (λ k. tree_of_word o (at_of o.words (child_place c k)))
unfolding child_spot
cell_tree o w c e r =
    let at : ℕ → ℕ = at_of o.words in
    ap (tree_from at 22) e ∙ tree-cell at 21 c
    ∙ cell_of-same (λ k. tree_from at 21 (at (child_place c k))) (λ k. tree_from at 22 (at (child_place c k)))
    (λ k small. sym (deep_enough o 21 (at (child_place c k)) (word_is (at (child_place c k))) (child_spot o w c e r k small) (omega arith)))

-- a tree has no more cells one inside the other than there are levels left
height_left : (o : Stored) (left w : ℕ) → WordIs w → (r : IsSpot (spot_at o w)) → r.level + left ≡ 21 → height (tree_of_word o w) ≤ left
unfolding child_spot
height_left o left w (NoBody e) r all = omega (arith, ap height (ap (tree_of_word o) e ∙ tree-empty (at_of o.words) 21), height-empty)
height_left o left w (OneBody n e) r all = omega (arith, ap height (ap (tree_of_word o) e ∙ tree-body (at_of o.words) 21 n), height-body n)
height_left o zero w (ACell c e) r all = absurd (omega (arith, cell_low o w c e r))
height_left o (suc left) w (ACell c e) r all =
    let child : ℕ → ℕ = λ k. at_of o.words (child_place c k) in
    let kids = height_within (λ k. tree_of_word o (child k)) (suc left)
    (λ k small. let kid : height (tree_of_word o (child k)) ≤ left = height_left o left (child k) (word_is (child k)) (child_spot o w c e r k small)
    (omega arith) in omega (arith, kid)) in
    omega (arith, ap height (cell_tree o w c e r), kids)

-- What holds of the words that name no cell, and of a cell's word where it holds of its children's, holds of each word that is read.
each_spot : (o : Stored) (P : ℕ → Type 0) → ((w : ℕ) → w ≡ 0 → P w) → ((w n : ℕ) → w ≡ body_word n → P w)
    → ((w c : ℕ) → w ≡ cell_word c → IsSpot (spot_at o w) → ((k : ℕ) → k < 8 → P (at_of o.words (child_place c k))) → P w)
    → (left w : ℕ) → WordIs w → (r : IsSpot (spot_at o w)) → r.level + left ≡ 21 → P w
unfolding child_spot
each_spot o P none one cell left w (NoBody e) r all = none w e
each_spot o P none one cell left w (OneBody n e) r all = one w n e
each_spot o P none one cell zero w (ACell c e) r all = absurd (omega (arith, cell_low o w c e r))
each_spot o P none one cell (suc left) w (ACell c e) r all =
    cell w c e r (λ k small. each_spot o P none one cell left (at_of o.words (child_place c k)) (word_is (at_of o.words (child_place c k)))
    (child_spot o w c e r k small) (omega arith))

-- ---- the cells below a word

-- a word below a word that is read has a key of the upper one's cube
record HasKeyIn (at : ℕ → ℕ) (top base upper v : ℕ) : Type 0 where
  key : ℕ
  read : IsReachedAs at top base key v
  inside : IsKeyBelow upper key

key_in : (at : ℕ → ℕ) (top base upper w v : ℕ) → IsReachedAs at top base upper w → IsReached at w v → HasKeyIn at top base upper v
key_in at top base upper w _ r (Here v e) = record {
  key = upper;
  read = subst (λ (y : ℕ). IsReachedAs at top base upper y) (sym e) r;
  inside = Same upper refl;
}
key_in at top base upper w _ r (Below c k v s l e) =
    let f = key_in at top base upper w (cell_word c) r s in
    record { key = 8 * f.key + k; read = BelowAs c k f.key (8 * f.key + k) v f.read l refl e; inside = Deeper f.key k (8 * f.key + k) f.inside l refl }

-- a cell that is read below two children of a cell is read below one child
one_child : (o : Stored) (w c i j d : ℕ) → w ≡ cell_word c → IsSpot (spot_at o w) → i < 8 → j < 8
    → IsReached (at_of o.words) (at_of o.words (child_place c i)) (cell_word d) → IsReached (at_of o.words) (at_of o.words (child_place c j)) (cell_word d)
    → i ≡ j
one_child o w c i j d e r p q x y =
    let at : ℕ → ℕ = at_of o.words in
    let key : ℕ = r.key in
    let one : 1 ≤ key = spot_positive (spot_at o w) r in
    let f = key_in at (root_word o) o.base (8 * key + i) (at (child_place c i)) (cell_word d)
    (BelowAs c i key (8 * key + i) (at (child_place c i)) (cell_read o w c e r) p refl refl) x in
    let g = key_in at (root_word o) o.base (8 * key + j) (at (child_place c j)) (cell_word d)
    (BelowAs c j key (8 * key + j) (at (child_place c j)) (cell_read o w c e r) q refl refl) y in
    let same : g.key ≡ f.key = sym (r.stored.sound.keys_follow g.key d g.read) ∙ r.stored.sound.keys_follow f.key d f.read in
    elim (comparable (8 * key + i) (8 * key + j) f.key f.inside (subst (λ (z : ℕ). IsKeyBelow (8 * key + j) z) same g.inside)) [
      | inl z ↦ child_in_child key i j one p q z
      | inr z ↦ sym (child_in_child key j i one q p z)
    ]

-- a word is read below one of a cell's children
pub record IsBelowChild (at : ℕ → ℕ) (c v : ℕ) : Type 0 where
  pub octant : ℕ
  pub small : octant < 8
  pub read : IsReached at (at (child_place c octant)) v

-- what is read below a cell is the cell or stands below a child
pub under_word : (at : ℕ → ℕ) (c v : ℕ) → IsReached at (cell_word c) v → (v ≡ cell_word c) ⊎ IsBelowChild at c v
under_word at c _ (Here v e) = inl e
under_word at c _ (Below d k v s l e) =
    elim (under_word at c (cell_word d) s) [
      | inl f ↦ let same : d ≡ c = omega arith in inr (record { octant = k; small = l; read = Here v (e ∙ ap (λ y. at (child_place y k)) same) })
      | inr f ↦ inr (record { octant = f.octant; small = f.small; read = Below d k v f.read l e })
    ]

-- and what is read below a child is read below the cell
pub below_cell : (at : ℕ → ℕ) (c k v : ℕ) → k < 8 → IsReached at (at (child_place c k)) v → IsReached at (cell_word c) v
below_cell at c k _ l (Here v e) = Below c k v (Here (cell_word c) refl) l e
below_cell at c k _ l (Below d j v s m e) = Below d j v (below_cell at c k (cell_word d) l s) m e

-- ---- the bodies below a word

-- nothing else is read below a word that names no cell
pub word_under : (at : ℕ → ℕ) (w v : ℕ) → ((c : ℕ) → w ≡ cell_word c → ⊥) → IsReached at w v → v ≡ w
word_under at w _ off (Here v e) = e
word_under at w _ off (Below c k v s l e) = absurd (off c (sym (word_under at w (cell_word c) off s)))

-- the bodies of the tree are those that are read below the word
abbrev HasItsBodies : Stored → ℕ → Type 0
HasItsBodies o w = (n : ℕ) → IsIn (order (tree_of_word o w)) n ↔ IsReached (at_of o.words) w (body_word n)

none_has : (o : Stored) (w : ℕ) → w ≡ 0 → HasItsBodies o w
none_has o w e n = (
  (λ i. absurd (subst (λ (y : List ℕ). IsIn y n) (ap order (ap (tree_of_word o) e ∙ tree-empty (at_of o.words) 21) ∙ order-empty) i)),
  (λ r. absurd (omega (arith, word_under (at_of o.words) w (body_word n) (λ c f. omega arith) r))),
)

one_has : (o : Stored) (w m : ℕ) → w ≡ body_word m → HasItsBodies o w
one_has o w m e n =
    let order_is : order (tree_of_word o w) ≡ m ∷ [] = ap order (ap (tree_of_word o) e ∙ tree-body (at_of o.words) 21 m) ∙ order-body m in (
      (λ i. elim (subst (λ (y : List ℕ). IsIn y n) order_is i) [ inl f ↦ Here (body_word n) (ap body_word f ∙ sym e) | inr f ↦ absurd f ]),
      (λ r.
          let same : n ≡ m = omega (arith, word_under (at_of o.words) w (body_word n) (λ c f. omega arith) r) in
          subst (λ (y : List ℕ). IsIn y n) (sym order_is) (inl same)),
    )

cell_has : (o : Stored) (w c : ℕ) → w ≡ cell_word c → IsSpot (spot_at o w) → ((k : ℕ) → k < 8 → HasItsBodies o (at_of o.words (child_place c k)))
    → HasItsBodies o w
cell_has o w c e r each n =
    let at : ℕ → ℕ = at_of o.words in
    let orders : ℕ → List ℕ = λ k. order (tree_of_word o (at (child_place c k))) in
    let order_is = ap order (cell_tree o w c e r) ∙ order-cell (λ k. tree_of_word o (at (child_place c k))) in (
      (λ i.
          let p = in_joined orders 8 n (subst (λ (y : List ℕ). IsIn y n) order_is i) in
          subst (λ (y : ℕ). IsReached at y (body_word n)) (sym e) (below_cell at c p.part (body_word n) p.small ((each p.part p.small n).0 p.inside))),
      (λ h. elim (under_word at c (body_word n) (subst (λ (y : ℕ). IsReached at y (body_word n)) e h)) [
        | inl f ↦ absurd (omega arith)
        | inr f ↦ subst (λ (y : List ℕ). IsIn y n) (sym order_is) (joined_in orders 8 f.octant n f.small ((each f.octant f.small n).1 f.read))
      ]),
    )

-- a body in the order of a word's tree is read below the word, and no other is
bodies_of_spot : (o : Stored) (w : ℕ) → IsSpot (spot_at o w) → HasItsBodies o w
bodies_of_spot o w r =
    let all : r.level + (21 - r.level) ≡ 21 = omega (arith, r.shallow) in
    each_spot o (HasItsBodies o) (none_has o) (one_has o) (cell_has o) (21 - r.level) w (word_is w) r all

-- the bodies of the octree's tree are those that can be reached
pub bodies_of_tree : (o : Stored) → IsStored o → (n : ℕ) → IsIn (order (tree_of o)) n ↔ HasBody o.words n
bodies_of_tree o stored = bodies_of_spot o (root_word o) (root_spot o stored)

-- ---- the cells of a word

-- each cell that is read below a word is among those that are read to its level
cells_all : (o : Stored) (left w : ℕ) → WordIs w → (r : IsSpot (spot_at o w)) → 21 ≤ r.level + left → (d : ℕ) → IsReached (at_of o.words) w (cell_word d)
    → IsIn (cells_from (at_of o.words) (suc left) w) d
unfolding child_spot
cells_all o left w (NoBody e) r deep d h = absurd (omega (arith, word_under (at_of o.words) w (cell_word d) (λ c f. omega arith) h))
cells_all o left w (OneBody n e) r deep d h = absurd (omega (arith, word_under (at_of o.words) w (cell_word d) (λ c f. omega arith) h))
cells_all o zero w (ACell c e) r deep d h = absurd (omega (arith, cell_low o w c e r))
cells_all o (suc left) w (ACell c e) r deep d h =
    let at : ℕ → ℕ = at_of o.words in
    let kid : ℕ → ℕ = λ k. at (child_place c k) in
    subst (λ (y : List ℕ). IsIn y d) (sym (cells-cell at (suc left) w c e))
    (elim (under_word at c (cell_word d) (subst (λ (y : ℕ). IsReached at y (cell_word d)) e h)) [
      | inl f ↦ inl (omega arith)
      | inr f ↦ inr (joined_in (λ k. cells_from at (suc left) (kid k)) 8 f.octant d f.small
          (cells_all o left (kid f.octant) (word_is (kid f.octant)) (child_spot o w c e r f.octant f.small) (omega arith) d f.read))
    ])

-- the cells of an octree are those that can be reached
pub cells_of_octree : (o : Stored) → IsStored o → (d : ℕ) → IsIn (cells_of o) d ↔ HasCell o.words d
unfolding root_spot
cells_of_octree o h d =
    let at : ℕ → ℕ = at_of o.words in
    let top : ℕ = root_word o in (
      λ i.
          let f = cells_read at top o.base 22 o.base top d (HereAs o.base top refl refl) (word_is top) i in
          forget at top o.base f.key (cell_word d) f.read,
      λ r. cells_all o 21 top (word_is top) (root_spot o h) (omega arith) d r,
    )

-- ---- what stands at the top

-- an empty spot
pub top_none : (s : Spot) → s.word ≡ 0 → IsNothingAt s
unfolding tree_under IsCellUnder
top_none s e = record {
  tree = ap (tree_of_word s.octree) e ∙ tree-empty (at_of s.octree.words) 21;
  bare = λ d r. absurd (omega (arith, word_under (at_of s.octree.words) s.word (cell_word d) (λ c f. omega arith) r));
}

-- the spot of a body
pub top_body : (s : Spot) (n : ℕ) → IsSpot s → s.word ≡ body_word n → IsBodyAt s n
unfolding tree_under IsCellUnder
top_body s n r e =
    let reached : HasBody s.octree.words n = subst (λ (w : ℕ). IsReached (at_of s.octree.words) (root_word s.octree) w) e (spot_read s r) in
    record {
      tree = ap (tree_of_word s.octree) e ∙ tree-body (at_of s.octree.words) 21 n;
      bare = λ d h. absurd (omega (arith, word_under (at_of s.octree.words) s.word (cell_word d) (λ c f. omega arith) h));
      reached = (bodies_of_tree s.octree r.stored n).1 reached;
      small = r.stored.bodies_small n reached;
    }

-- the cells below a cell
cell_parts : (s : Spot) (c : ℕ) → IsSpot s → s.word ≡ cell_word c → HasParts s s
unfolding cell_at IsCellUnder IsUnderChild
cell_parts s c r e =
    let at : ℕ → ℕ = at_of s.octree.words in
    let number : cell_number s.word ≡ c = omega arith in
    let child : (k d : ℕ) → IsReached at (at (child_place (cell_number s.word) k)) (cell_word d) → IsReached at (at (child_place c k)) (cell_word d) =
    λ k d h. subst (λ (x : ℕ). IsReached at (at (child_place x k)) (cell_word d)) number h in
    record {
      itself = Here (cell_word (cell_number s.word)) (ap cell_word number ∙ sym e);
      below = λ k d l h. subst (λ (w : ℕ). IsReached at w (cell_word d)) (sym e) (below_cell at c k (cell_word d) l (child k d h));
      nothing_else = λ d h. elim (under_word at c (cell_word d) (subst (λ (w : ℕ). IsReached at w (cell_word d)) e h)) [
        | inl f ↦ inl (omega (arith, f))
        | inr f ↦ inr (record {
          octant = f.octant;
          small = f.small;
          under = subst (λ (x : ℕ). IsReached at (at (child_place x f.octant)) (cell_word d)) (sym number) f.read;
        })
      ];
      apart = λ i j d p q x y. one_child s.octree s.word c i j d e r p q (child i d x) (child j d y);
    }

-- the spot of a cell
cell_at_itself : (s : Spot) (c : ℕ) → IsSpot s → s.word ≡ cell_word c → IsCellAt s s
unfolding cell_at child_under tree_under
cell_at_itself s c r e =
    let number : cell_number s.word ≡ c = omega arith in
    let o : Stored = s.octree in
    let one = one_of_more (r.stored.sound.more_bodies r.key c (cell_read o s.word c e r)) in
    record {
      same = refl;
      tree = cell_tree o s.word c e r ∙ ap (λ d. cell_of (λ k. tree_of_word o (at_of o.words (child_place d k)))) (sym number);
      kept = ap (tree_of_word o) e ∙ ap (λ d. tree_of_word o (cell_word d)) (sym number);
      reached = subst (λ (d : ℕ). HasCell o.words d) (sym number) (cell_reached o s.word c e r);
      some = record {
        body = one.one;
        inside = (bodies_of_spot o s.word r one.one).1
            (subst (λ (w : ℕ). IsReached (at_of o.words) w (body_word one.one)) (sym e) one.one_is);
      };
      parts = cell_parts s c r e;
    }

-- and by the cell's number
pub top_cell : (s : Spot) (c : ℕ) → IsSpot s → s.word ≡ cell_word c → IsCellAt s (spot_at s.octree (cell_word c))
top_cell s c r e = subst (λ (w : ℕ). IsCellAt s (spot_at s.octree w)) e (cell_at_itself s c r e)

-- ---- the cursor

-- a child of a cell
pub child_is_child : (o : Stored) (c k w : ℕ) → w ≡ at_of o.words (child_place c k) → IsChildOf (spot_at o (cell_word c)) k (spot_at o w)
unfolding child_under tree_under IsCellUnder IsUnderChild
child_is_child o c k w e =
    let number : cell_number (cell_word c) ≡ c = omega arith in
    let word : w ≡ at_of o.words (child_place (cell_number (cell_word c)) k) = e ∙ ap (λ d. at_of o.words (child_place d k)) (sym number) in
    record {
      tree = ap (tree_of_word o) word;
      octree = refl;
      cells = λ d. (
        λ h. subst (λ (x : ℕ). IsReached (at_of o.words) x (cell_word d)) word h,
        λ h. subst (λ (x : ℕ). IsReached (at_of o.words) x (cell_word d)) (sym word) h,
      );
    }

-- the number of a cell
pub spot_number : (o : Stored) (c : ℕ) → c ≡ cell_at (spot_at o (cell_word c))
unfolding cell_at
spot_number o c = let e : c ≡ cell_number (cell_word c) = omega arith in e

-- what is known of the whole octree as a spot
pub record IsWhole (o : Stored) (s : Spot) : Type 0 where
  pub octree : s.octree ≡ o
  pub tree : tree_under s ≡ tree_of o
  pub height : height (tree_under s) ≤ 21
  pub cells : (d : ℕ) → HasCell o.words d → IsCellUnder s d
  pub reached : (d : ℕ) → IsCellUnder s d → HasCell o.words d
  pub bodies : (n : ℕ) → IsIn (order (tree_of o)) n ↔ HasBody o.words n
  pub spot : IsSpot s

pub whole_is : (o : Stored) (w : ℕ) → IsStored o → w ≡ root_word o → IsWhole o (spot_at o w)
unfolding tree_under IsCellUnder root_spot
whole_is o w stored e =
    let all : o.level + (21 - o.level) ≡ 21 = omega (arith, stored.shallow) in
    let low : height (tree_of o) ≤ 21 - o.level = height_left o (21 - o.level) (root_word o) (word_is (root_word o)) (root_spot o stored) all in
    record {
      octree = refl;
      tree = ap (tree_of_word o) e;
      height = omega (arith, low, ap height (ap (tree_of_word o) e));
      cells = λ d h. subst (λ (x : ℕ). IsReached (at_of o.words) x (cell_word d)) (sym e) h;
      reached = λ d h. subst (λ (x : ℕ). IsReached (at_of o.words) x (cell_word d)) e h;
      bodies = bodies_of_tree o stored;
      spot = subst (λ (y : ℕ). IsSpot (spot_at o y)) (sym e) (root_spot o stored);
    }

-- a child is of the same octree as the subtree whose cell it is a child of
pub child_octree : (s cell child : Spot) (k : ℕ) → IsCellAt s cell → IsChildOf cell k child → child.octree ≡ s.octree
child_octree s cell child k at is = is.octree ∙ ap (λ (x : Spot). x.octree) at.same

-- and its tree is less high
pub child_height : (s cell child : Spot) (k : ℕ) → IsCellAt s cell → IsChildOf cell k child → k < 8 → height (tree_under child) < height (tree_under s)
child_height s cell child k at is small = subst (λ (t : Tree). height (tree_under child) < height t) (sym at.tree)
    (subst (λ (t : Tree). height t < height (cell_of (child_under cell))) (sym is.tree) (height_falls (child_under cell) k small))
