-- Words that stand for a list of bodies give the canonical octree of the list.
use Rattle.std.proofs.Common.{ℕ, ◌+◌, ◌*◌, ◌^◌, ◌<◌, ◌≤◌, ◌≡◌, zero, suc, refl, sym, ◌∙◌, ap, subst, inl, inr, arith, List, [], ◌∷◌, Bool, eqb}
use Rattle.std.specs.List.{filter}
use Rattle.std.proofs.lemmas.Bool.{eqb-true, eq-eqb, eqb-false}
use Rattle.std.proofs.Math.Nat.{pow-suc, pow-zero}
use Rattle.octant_code.specs.Space.{Site, octant_of, key_of}
use Rattle.octant_code.proofs.Keys.{key-zero, key-suc, octant-small, level_of_key, same_parent, same_child}
use Rattle.bh_model.proofs.Equal.{not-eqb, same_or_not}
use Rattle.bh_model.proofs.Lists.{HasTwo, filter-all, filter-filter, filter-keeps, filter-none, filter-one, two_members}
use Rattle.bh_model.proofs.Trees.{cell_of-same, octree-none, octree-one, octree-two}
use Rattle.bh_model.specs.Bodies.{IsIn, NoneTwice}
use Rattle.bh_model.specs.Trees.{Body, Empty, cell_of, in_octant, octree, octree_from}
use Rattle.tree_rule.proofs.Flat.{word_over}
use Rattle.tree_rule.proofs.Shared.{sharer, two_sharers}
use Rattle.tree_rule.specs.Flat.{Child, IsShared, IsWordOf, StandsFor, Top}
use Rattle.tree_rule.specs.Words.{BodyName, CellName, Named, NoName, body_word, cell_word, child_place, named_by, tree_from, tree_of_named, word_of}
use Rattle.tree_rule.proofs.Names.{named-none, named-body, named-cell, word-named}

-- the tree of the word 0
pub tree-empty : (at : ℕ → ℕ) (below : ℕ) → tree_from at (suc below) 0 ≡ Empty
unfolding tree_from tree_of_named
tree-empty at below = ap (λ x. tree_of_named (λ c. cell_of (λ k. tree_from at below (at (child_place c k)))) x) named-none

-- the tree of a body's word
pub tree-body : (at : ℕ → ℕ) (below n : ℕ) → tree_from at (suc below) (body_word n) ≡ Body n
unfolding tree_from tree_of_named
tree-body at below n = ap (λ x. tree_of_named (λ c. cell_of (λ k. tree_from at below (at (child_place c k)))) x) (named-body n)

-- the tree of a cell's word is the cell of the trees of its child words
pub tree-cell : (at : ℕ → ℕ) (below c : ℕ) → tree_from at (suc below) (cell_word c) ≡ cell_of (λ k. tree_from at below (at (child_place c k)))
unfolding tree_from tree_of_named
tree-cell at below c = ap (λ x. tree_of_named (λ d. cell_of (λ k. tree_from at below (at (child_place d k)))) x) (named-cell c)

-- equations that follow from each other have the same test
eqb-iff : (a b c d : ℕ) → (a ≡ b → c ≡ d) → (c ≡ d → a ≡ b) → eqb a b ≡ eqb c d
eqb-iff a b c d f g =
    elim (same_or_not a b) [
      | inl e ↦ eq-eqb a b e ∙ sym (eq-eqb c d (f e))
      | inr o ↦ not-eqb a b o ∙ sym (not-eqb c d (λ e. o (g e)))
    ]

-- a point under a child's key is under the parent's, in that octant
under_parent : (s : Site) (level key k : ℕ) → k < 8 → key_of s (suc level) ≡ 8 * key + k → key_of s level ≡ key
under_parent s level key k small e = same_parent _ _ (octant_of s level) k (octant-small s level) small (sym (key-suc s level) ∙ e)

-- a point under a child's key has that octant
under_octant : (s : Site) (level key k : ℕ) → k < 8 → key_of s (suc level) ≡ 8 * key + k → octant_of s level ≡ k
under_octant s level key k small e = same_child (key_of s level) key (octant_of s level) k (octant-small s level) small (sym (key-suc s level) ∙ e)

-- a point under a key is under a child's key exactly where it has that octant
child_test : (s : Site) (level key k : ℕ) → k < 8 → key_of s level ≡ key → eqb (octant_of s level) k ≡ eqb (key_of s (suc level)) (8 * key + k)
child_test s level key k small e =
    eqb-iff (octant_of s level) k (key_of s (suc level)) (8 * key + k)
    (λ f. key-suc s level ∙ (ap (λ x. 8 * x + octant_of s level) e ∙ ap (λ x. 8 * key + x) f))
    (λ g. under_octant s level key k small g)

-- the bodies of a list that lie in the cube of a key of a level
abbrev pub under_key : (ℕ → Site) → ℕ → ℕ → List ℕ → List ℕ
under_key site level key bodies = filter (λ n. eqb (key_of (site n) level) key) bodies

-- the bodies with an octant among those under a key are those under the child's key
pub under_child : (site : ℕ → Site) (level key k : ℕ) (bodies : List ℕ) → k < 8
    → in_octant site level k (under_key site level key bodies) ≡ under_key site (suc level) (8 * key + k) bodies
under_child site level key k bodies small =
    filter-filter (λ n. eqb (octant_of (site n) level) k) (λ n. eqb (key_of (site n) level) key) (λ n. eqb (key_of (site n) (suc level)) (8 * key + k))
    (λ n e. child_test (site n) level key k small (eqb-true (key_of (site n) level) key e))
    (λ n e. not-eqb (key_of (site n) (suc level)) (8 * key + k) (λ g. eqb-false (key_of (site n) level) key e (under_parent (site n) level key k small g)))
    bodies

-- what a word is
pub data WordIs (w : ℕ) : Type 0 where
  NoBody : w ≡ 0 → WordIs w
  OneBody : (n : ℕ) → w ≡ body_word n → WordIs w
  ACell : (c : ℕ) → w ≡ cell_word c → WordIs w

-- the word of what is named is what it is
is_of : (w : ℕ) (x : Named) → word_of x ≡ w → WordIs w
unfolding word_of
is_of w NoName e = NoBody (sym e)
is_of w (BodyName n) e = OneBody n (sym e)
is_of w (CellName c) e = ACell c (sym e)

-- each word is 0, a body's or a cell's
pub word_is : (w : ℕ) → WordIs w
word_is w = is_of w (named_by w) (word-named w)

-- where a word is 0 no body lies under its key
none_under : (site : ℕ → Site) (at : ℕ → ℕ) (top base : ℕ) (P : ℕ → Type 0) (bodies : List ℕ) → StandsFor site at top base P (IsIn bodies)
    → (level key : ℕ) → IsWordOf at top base P key 0 → under_key site level key bodies ≡ []
none_under site at top base P bodies h level key x =
    filter-none (λ n. eqb (key_of (site n) level) key) bodies
    (λ n i e.
    let here : IsWordOf at top base P (key_of (site n) level) 0 =
    subst (λ (y : ℕ). IsWordOf at top base P y 0) (sym (eqb-true (key_of (site n) level) key e)) x in
    elim (word_over site at top base P (IsIn bodies) (IsIn bodies) h n level 0 i here) [
      | inl z ↦ omega arith
      | inr z ↦ omega (arith, z.2)
    ])

-- where a word names a body, that body alone lies under its key
one_under : (site : ℕ → Site) (at : ℕ → ℕ) (top base : ℕ) (P : ℕ → Type 0) (bodies : List ℕ) → StandsFor site at top base P (IsIn bodies) → NoneTwice bodies
    → (level key n : ℕ) → 8 ^ level ≤ key → key < 2 * 8 ^ level → IsWordOf at top base P key (body_word n) → under_key site level key bodies ≡ n ∷ []
one_under site at top base P bodies h apart level key n low high x =
    let f = h.names_body key n x in
    let l : f.1.0 ≡ level = level_of_key (site n) key level f.1.0 low high f.1.2 in
    let k : key_of (site n) level ≡ key = sym (f.1.2 ∙ ap (key_of (site n)) l) in
    filter-one (λ m. eqb (key_of (site m) level) key) bodies n apart f.0 (eq-eqb (key_of (site n) level) key k)
    (λ m i e.
    let here : IsWordOf at top base P (key_of (site m) level) (body_word n) =
    subst (λ (y : ℕ). IsWordOf at top base P y (body_word n)) (sym (eqb-true (key_of (site m) level) key e)) x in
    elim (word_over site at top base P (IsIn bodies) (IsIn bodies) h m level (body_word n) i here) [
      | inl z ↦ omega arith
      | inr z ↦ absurd (omega (arith, z.2))
    ])

-- under the key of a cell lie two bodies
two_under : (site : ℕ → Site) (bodies : List ℕ) (level key : ℕ) → 8 ^ level ≤ key → key < 2 * 8 ^ level → IsShared site (IsIn bodies) key
    → HasTwo (under_key site level key bodies)
two_under site bodies level key low high shared =
    let f = two_sharers shared in
    let p : ℕ → Bool = λ n. eqb (key_of (site n) level) key in
    let l : f.level ≡ level = level_of_key (site f.one) key level f.level low high f.one_under in
    let a : key_of (site f.one) level ≡ key = sym (f.one_under ∙ ap (key_of (site f.one)) l) in
    let b : key_of (site f.other) level ≡ key = sym (f.other_under ∙ ap (key_of (site f.other)) l) in
    two_members (under_key site level key bodies) f.one f.other
    (filter-keeps p bodies f.one f.one_in (eq-eqb (key_of (site f.one) level) key a))
    (filter-keeps p bodies f.other f.other_in (eq-eqb (key_of (site f.other) level) key b)) f.differ

-- a word stands for the octree of the bodies under its key
pub reads : (site : ℕ → Site) (at : ℕ → ℕ) (top base : ℕ) (P : ℕ → Type 0) (bodies : List ℕ) → StandsFor site at top base P (IsIn bodies) → NoneTwice bodies
    → (below level key w : ℕ) → level + below ≡ 21 → 8 ^ level ≤ key → key < 2 * 8 ^ level → IsWordOf at top base P key w → WordIs w
    → tree_from at (suc below) w ≡ octree_from site below level (under_key site level key bodies)
reads site at top base P bodies h apart below level key w sum low high x (NoBody e) =
    let here : IsWordOf at top base P key 0 = subst (λ (y : ℕ). IsWordOf at top base P key y) e x in
    rw (e, none_under site at top base P bodies h level key here, tree-empty at below, octree-none site below level) refl
reads site at top base P bodies h apart below level key w sum low high x (OneBody n e) =
    let here : IsWordOf at top base P key (body_word n) = subst (λ (y : ℕ). IsWordOf at top base P key y) e x in
    rw (e, one_under site at top base P bodies h apart level key n low high here, tree-body at below n, octree-one site below level n) refl
reads site at top base P bodies h apart zero level key w sum low high x (ACell c e) =
    let here : IsWordOf at top base P key (cell_word c) = subst (λ (y : ℕ). IsWordOf at top base P key y) e x in
    let f = h.names_cell key c here in
    let s = sharer (h.shared c f.0) in
    let l : s.level ≡ level = level_of_key (site s.one) key level s.level low high (sym f.1 ∙ s.one_under) in
    absurd (omega (arith, s.shallow))
reads site at top base P bodies h apart (suc below) level key w sum low high x (ACell c e) =
    let here : IsWordOf at top base P key (cell_word c) = subst (λ (y : ℕ). IsWordOf at top base P key y) e x in
    let f = h.names_cell key c here in
    let s : IsShared site (IsIn bodies) key = subst (λ (y : ℕ). IsShared site (IsIn bodies) y) f.1 (h.shared c f.0) in
    let two = two_under site bodies level key low high s in
    let child : (k : ℕ) → k < 8
    → tree_from at (suc below) (at (child_place c k)) ≡ octree_from site below (suc level) (in_octant site level k (under_key site level key bodies)) =
    λ k small.
    let below_it : IsWordOf at top base P (8 * key + k) (at (child_place c k)) = Child c k f.0 small (ap (λ y. 8 * y + k) (sym f.1)) refl in
    reads site at top base P bodies h apart below (suc level) (8 * key + k) (at (child_place c k)) (omega arith) (omega (arith, pow-suc 8 level))
    (omega (arith, pow-suc 8 level)) below_it (word_is (at (child_place c k)))
    ∙ ap (octree_from site below (suc level)) (sym (under_child site level key k bodies small)) in
    ap (tree_from at (suc (suc below))) e ∙ tree-cell at (suc below) c
    ∙ cell_of-same (λ k. tree_from at (suc below) (at (child_place c k)))
    (λ k. octree_from site below (suc level) (in_octant site level k (under_key site level key bodies))) child
    ∙ sym (octree-two site below level (under_key site level key bodies) two)

-- all bodies lie under the root's key
under_root : (site : ℕ → Site) (bodies : List ℕ) → under_key site 0 1 bodies ≡ bodies
under_root site bodies = filter-all (λ n. eqb (key_of (site n) 0) 1) bodies (λ n. eq-eqb (key_of (site n) 0) 1 (key-zero (site n)))

-- words that stand for a list of bodies give its canonical octree
pub flat_gives_canonical : (site : ℕ → Site) (at : ℕ → ℕ) (P : ℕ → Type 0) (bodies : List ℕ) → StandsFor site at (at 0) 1 P (IsIn bodies) → NoneTwice bodies
    → tree_from at 22 (at 0) ≡ octree site bodies
flat_gives_canonical site at P bodies h apart =
    reads site at (at 0) 1 P bodies h apart 21 0 1 (at 0) refl (omega (arith, pow-zero 8)) (omega (arith, pow-zero 8)) (Top refl refl) (word_is (at 0))
    ∙ ap (octree_from site 21 0) (under_root site bodies)
