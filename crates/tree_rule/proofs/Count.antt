-- No cell is read twice, so there are no more than are used.
use Rattle.std.proofs.Common.{ℕ, ◌+◌, ◌*◌, ◌<◌, ◌≤◌, ◌≡◌, ◌≢◌, ◌⊎◌, zero, suc, refl, sym, ◌∙◌, ap, subst, inl, inr, arith, List, [], ◌∷◌, length, true, false}
use Rattle.std.proofs.Common.{eqb, not}
use Rattle.std.specs.List.{filter}
use Rattle.std.proofs.lemmas.Bool.{cases_Bool, eqb-true, eq-eqb}
use Rattle.octant_code.proofs.Keys.{same_parent}
use Rattle.bh_model.proofs.Equal.{not-eqb}
use Rattle.bh_model.proofs.Lists.{filter-member, in_joined, joined, none_twice-filter, none_twice_joined}
use Rattle.bh_model.specs.Bodies.{IsIn, NoneTwice}
use Rattle.tree_rule.proofs.Canonical.{ACell, NoBody, OneBody, WordIs, word_is}
use Rattle.tree_rule.proofs.Sound.{keys_grow}
use Rattle.tree_rule.specs.Sound.{BelowAs, IsReachedAs, IsSound}
use Rattle.tree_rule.specs.Words.{Named, BodyName, CellName, NoName, body_word, cell_word, cells_from, cells_of_named, child_place, named_by}
use Rattle.tree_rule.proofs.Names.{named-none, named-body, named-cell}

-- a key is that of a cube in the cube of another
pub data IsKeyBelow (upper : ℕ) : ℕ → Type 0 where
  Same : (key : ℕ) → key ≡ upper → IsKeyBelow upper key
  Deeper : (parent k key : ℕ) → IsKeyBelow upper parent → k < 8 → key ≡ 8 * parent + k → IsKeyBelow upper key

-- a key is at least that of each cube around its own
below_grows : (upper key : ℕ) → IsKeyBelow upper key → upper ≤ key
below_grows upper _ (Same key e) = omega arith
below_grows upper _ (Deeper parent k key h l e) = omega (arith, below_grows upper parent h)

-- two cubes that hold one lie in each other
pub comparable : (a b key : ℕ) → IsKeyBelow a key → IsKeyBelow b key → IsKeyBelow a b ⊎ IsKeyBelow b a
comparable a b _ (Same key e) h = inr (subst (λ (y : ℕ). IsKeyBelow b y) e h)
comparable a b _ (Deeper parent k key h l e) (Same key' f) = inl (subst (λ (y : ℕ). IsKeyBelow a y) f (Deeper parent k key h l e))
comparable a b _ (Deeper parent k key h l e) (Deeper other j key' g m f) =
    let up : other ≡ parent = sym (same_parent parent other k j l m (sym e ∙ f)) in
    comparable a b parent h (subst (λ (y : ℕ). IsKeyBelow b y) up g)

-- a key in the cube of a child is not that of another child
child_in : (key i j deep : ℕ) → 1 ≤ key → i < 8 → j < 8 → deep ≡ 8 * key + j → IsKeyBelow (8 * key + i) deep → i ≡ j
child_in key i j _ pos p q d (Same deep e) = omega arith
child_in key i j _ pos p q d (Deeper parent k deep h l e) =
    let up : parent ≡ key = same_parent parent key k j l q (sym e ∙ d) in
    absurd (omega (arith, below_grows (8 * key + i) parent h))

-- a cube lies in one child alone
pub child_in_child : (key i j : ℕ) → 1 ≤ key → i < 8 → j < 8 → IsKeyBelow (8 * key + i) (8 * key + j) → i ≡ j
child_in_child key i j pos p q h = child_in key i j (8 * key + j) pos p q refl h

-- the cells that are read below a word that names something
cells-named : (at : ℕ → ℕ) (below w : ℕ) (x : Named) → named_by w ≡ x
    → cells_from at (suc below) w ≡ cells_of_named (λ y. joined (λ k. cells_from at below (at (child_place y k))) 8) x
unfolding cells_from
cells-named at below w x e = ap (λ z. cells_of_named (λ y. joined (λ k. cells_from at below (at (child_place y k))) 8) z) e

-- no cell is read below the word 0
pub cells-empty : (at : ℕ → ℕ) (below w : ℕ) → w ≡ 0 → cells_from at below w ≡ []
unfolding cells_from cells_of_named
cells-empty at zero w e = refl
cells-empty at (suc below) w e = cells-named at below w NoName (ap named_by e ∙ named-none)

-- no cell is read below a body's word
pub cells-body : (at : ℕ → ℕ) (below w n : ℕ) → w ≡ body_word n → cells_from at below w ≡ []
unfolding cells_from cells_of_named
cells-body at zero w n e = refl
cells-body at (suc below) w n e = cells-named at below w (BodyName n) (ap named_by e ∙ named-body n)

-- below a cell's word that cell is read and those of its child words
pub cells-cell : (at : ℕ → ℕ) (below w c : ℕ) → w ≡ cell_word c → cells_from at (suc below) w ≡ c ∷ joined (λ k. cells_from at below (at (child_place c k))) 8
unfolding cells_of_named
cells-cell at below w c e = cells-named at below w (CellName c) (ap named_by e ∙ named-cell c)

-- a cell that is read below a word, with its key
pub record IsReadIn (at : ℕ → ℕ) (top base upper d : ℕ) : Type 0 where
  pub key : ℕ
  pub read : IsReachedAs at top base key (cell_word d)
  pub inside : IsKeyBelow upper key

-- what lies in a child's cube lies in the parent's
inside_child : (upper k key : ℕ) → k < 8 → IsKeyBelow (8 * upper + k) key → IsKeyBelow upper key
inside_child upper k _ l (Same key e) = Deeper upper k key (Same upper refl) l e
inside_child upper k _ l (Deeper parent j key h m e) = Deeper parent j key (inside_child upper k parent l h) m e

-- to no depth no cell is read
no_cells : (at : ℕ → ℕ) (w d : ℕ) → IsIn (cells_from at zero w) d → ⊥
unfolding cells_from
no_cells at w d i = i

-- to no depth no cell is read twice
once_zero : (at : ℕ → ℕ) (w : ℕ) → NoneTwice (cells_from at zero w)
unfolding cells_from
once_zero at w = tt

-- each cell that is read below a word is read with a key of its cube
pub cells_read : (at : ℕ → ℕ) (top base below key w d : ℕ) → IsReachedAs at top base key w → WordIs w → IsIn (cells_from at below w) d
    → IsReadIn at top base key d
cells_read at top base zero key w d r v i = absurd (no_cells at w d i)
cells_read at top base (suc below) key w d r (NoBody e) i = absurd (subst (λ (y : List ℕ). IsIn y d) (cells-empty at (suc below) w e) i)
cells_read at top base (suc below) key w d r (OneBody n e) i = absurd (subst (λ (y : List ℕ). IsIn y d) (cells-body at (suc below) w n e) i)
cells_read at top base (suc below) key w d r (ACell c e) i =
    let kids : ℕ → List ℕ = λ k. cells_from at below (at (child_place c k)) in
    let r' : IsReachedAs at top base key (cell_word c) = subst (λ (y : ℕ). IsReachedAs at top base key y) e r in
    let j : IsIn (c ∷ joined kids 8) d = subst (λ (y : List ℕ). IsIn y d) (cells-cell at below w c e) i in
    elim j [
      | inl s ↦ record { key = key; read = subst (λ (y : ℕ). IsReachedAs at top base key (cell_word y)) (sym s) r'; inside = Same key refl }
      | inr q ↦
          let p = in_joined kids 8 d q in
          let f = cells_read at top base below (8 * key + p.part) (at (child_place c p.part)) d
          (BelowAs c p.part key (8 * key + p.part) (at (child_place c p.part)) r' p.small refl refl) (word_is (at (child_place c p.part))) p.inside in
          record { key = f.key; read = f.read; inside = inside_child key p.part f.key p.small f.inside }
    ]

-- no cell is read twice
pub cells_once : (at : ℕ → ℕ) (top base : ℕ) → 1 ≤ base → IsSound at top base → (below key w : ℕ) → IsReachedAs at top base key w → WordIs w
    → NoneTwice (cells_from at below w)
cells_once at top base pos h zero key w r v = once_zero at w
cells_once at top base pos h (suc below) key w r (NoBody e) = subst NoneTwice (sym (cells-empty at (suc below) w e)) tt
cells_once at top base pos h (suc below) key w r (OneBody n e) = subst NoneTwice (sym (cells-body at (suc below) w n e)) tt
cells_once at top base pos h (suc below) key w r (ACell c e) =
    let kids : ℕ → List ℕ = λ k. cells_from at below (at (child_place c k)) in
    let r' : IsReachedAs at top base key (cell_word c) = subst (λ (y : ℕ). IsReachedAs at top base key y) e r in
    let one : 1 ≤ key = omega (arith, keys_grow at top base key w r) in
    let kid : (k : ℕ) → k < 8
    → IsReachedAs at top base (8 * key + k) (at (child_place c k)) = λ k l. BelowAs c k key (8 * key + k) (at (child_place c k)) r' l refl refl in
    let inner : (k d : ℕ) → k < 8 → IsIn (kids k) d → IsReadIn at top base (8 * key + k) d = λ k d l i.
    cells_read at top base below (8 * key + k) (at (child_place c k)) d (kid k l) (word_is (at (child_place c k))) i in
    subst NoneTwice (sym (cells-cell at below w c e)) (
      (λ i.
          let p = in_joined kids 8 c i in
          let f = inner p.part c p.small p.inside in
          let same : f.key ≡ key = sym (h.keys_follow f.key c f.read) ∙ h.keys_follow key c r' in
          omega (arith, below_grows (8 * key + p.part) f.key f.inside)),
      none_twice_joined kids 8
          (λ k l. cells_once at top base pos h below (8 * key + k) (at (child_place c k)) (kid k l) (word_is (at (child_place c k))))
          (λ i j d p q x y.
          let f = inner i d p x in
          let g = inner j d q y in
          let same : g.key ≡ f.key = sym (h.keys_follow g.key d g.read) ∙ h.keys_follow f.key d f.read in
          elim (comparable (8 * key + i) (8 * key + j) f.key f.inside (subst (λ (z : ℕ). IsKeyBelow (8 * key + j) z) same g.inside)) [
            | inl z ↦ child_in_child key i j one p q z
            | inr z ↦ sym (child_in_child key j i one q p z)
          ]),
    )

-- leaving a number out that is no member keeps the length
filter_same : (m : ℕ) (xs : List ℕ) → (IsIn xs m → ⊥) → length (filter (λ n. not (eqb n m)) xs) ≡ length xs
filter_same m [] h = refl
filter_same m (x ∷ xs) h =
    let e : not (eqb x m) ≡ true = ap not (not-eqb x m (λ f. h (inl (sym f)))) in
    rw e (ap suc (filter_same m xs (λ i. h (inr i))))

-- leaving one number out makes a list without repeats shorter by one at most
one_less : (m : ℕ) (xs : List ℕ) → NoneTwice xs → length xs ≤ suc (length (filter (λ n. not (eqb n m)) xs))
one_less m [] d = omega arith
one_less m (x ∷ xs) d =
    elim (cases_Bool (eqb x m)) [
      | inl e ↦
          let f : not (eqb x m) ≡ false = ap not e in
          let same : x ≡ m = eqb-true x m e in
          rw f (omega (arith, filter_same m xs (λ i. d.0 (subst (λ (y : ℕ). IsIn xs y) (sym same) i))))
      | inr e ↦
          let f : not (eqb x m) ≡ true = ap not e in
          rw f (omega (arith, one_less m xs d.1))
    ]

-- a list without repeats of numbers below a number is no longer than that number
pub few_below : (m : ℕ) (xs : List ℕ) → NoneTwice xs → ((n : ℕ) → IsIn xs n → n < m) → length xs ≤ m
few_below zero [] d h = omega arith
few_below zero (x ∷ xs) d h = absurd (let l : x < 0 = h x (inl refl) in omega arith)
few_below (suc m) xs d h =
    let rest : List ℕ = filter (λ n. not (eqb n m)) xs in
    let shorter : length rest ≤ m = few_below m rest (none_twice-filter (λ n. not (eqb n m)) xs d)
    (λ n i.
    let f = filter-member (λ y. not (eqb y m)) xs n i in
    let l : n < suc m = h n f.0 in
    let o : n ≢ m = λ e. let t : not (eqb n m) ≡ false = ap not (eq-eqb n m e) in let u : true ≡ false = sym f.1 ∙ t in cc in
    omega arith) in
    omega (arith, one_less m xs d)
