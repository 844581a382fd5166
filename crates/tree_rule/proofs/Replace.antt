-- The word of a cube is replaced, and with it all that is read below it.
use Rattle.std.proofs.Common.{ℕ, ◌+◌, ◌*◌, ◌<◌, ◌≤◌, ◌≡◌, ◌≢◌, ◌⊎◌, refl, sym, ◌∙◌, ap, subst, inl, inr, arith}
use Rattle.octant_code.specs.Space.{Site, key_of, IsUnder}
use Rattle.octant_code.proofs.Keys.{key-positive, same_parent}
use Rattle.bh_model.proofs.Equal.{same_or_not}
use Rattle.tree_rule.proofs.Flat.{below_top, child_below_top, one_word}
use Rattle.tree_rule.proofs.Once.{one_key_of_body}
use Rattle.tree_rule.proofs.Shared.{shared_more, sharer}
use Rattle.tree_rule.proofs.Walk.{reached_below, under_up}
use Rattle.tree_rule.specs.Flat.{Child, Either, IsNamed, IsShared, IsWordOf, StandsAmid, Top}
use Rattle.tree_rule.specs.Words.{Below, Here, IsReached, body_word, cell_word, child_place, key_place}

-- the cells of a set that are not read below a word
abbrev pub CellsOutside : (ℕ → ℕ) → ℕ → (ℕ → Type 0) → ℕ → Type 0
CellsOutside at old P c = P c × (IsReached at old (cell_word c) → ⊥)

-- the bodies of a set that are not read below a word
abbrev pub BodiesOutside : (ℕ → ℕ) → ℕ → (ℕ → Type 0) → ℕ → Type 0
BodiesOutside at old B n = B n × (IsReached at old (body_word n) → ⊥)

-- The word `old` of the cube of a key becomes `w`, below which bodies of the cube stand with cells of their own. Of the cells that are not read
-- below the old word the keys stay, and all other child words.
pub record Replaces (site : ℕ → Site) (at at' : ℕ → ℕ) (top top' base : ℕ) (P Q B M V N : ℕ → Type 0) (key old w : ℕ) : Type 0 where
  pub before : StandsAmid site at top base P B V
  pub below : StandsAmid site at' w key Q M N
  pub there : IsWordOf at top base P key old
  pub top_new : base ≡ key → top' ≡ w
  pub top_stays : base ≢ key → top' ≡ top
  pub keys_stay : (c : ℕ) → CellsOutside at old P c → at' (key_place c) ≡ at (key_place c)
  pub child_new : (c k : ℕ) → CellsOutside at old P c → k < 8 → 8 * at (key_place c) + k ≡ key → at' (child_place c k) ≡ w
  pub child_stays : (c k : ℕ) → CellsOutside at old P c → k < 8 → 8 * at (key_place c) + k ≢ key → at' (child_place c k) ≡ at (child_place c k)

-- the key of a word that is read below another: it is none above the other's
pub record IsReadUnder (site : ℕ → Site) (at : ℕ → ℕ) (top base : ℕ) (P : ℕ → Type 0) (key v : ℕ) : Type 0 where
  pub deeper : ℕ
  pub word : IsWordOf at top base P deeper v
  pub deep : key ≤ deeper
  pub in_cube : (s : Site) → IsUnder deeper s → IsUnder key s

-- the key of a cell is not 0
pub cell_key_positive : (site : ℕ → Site) (at : ℕ → ℕ) (top base : ℕ) (P B V : ℕ → Type 0) → StandsAmid site at top base P B V → (c : ℕ) → P c
    → 1 ≤ at (key_place c)
cell_key_positive site at top base P B V h c p = let f = sharer (h.shared c p) in omega (arith, f.one_under, key-positive (site f.one) f.level)

-- a word that is read below another has a key of the other's cube
pub read_under : (site : ℕ → Site) (at : ℕ → ℕ) (top base : ℕ) (P B V : ℕ → Type 0) → StandsAmid site at top base P B V
    → (key old v : ℕ) → IsWordOf at top base P key old → IsReached at old v → IsReadUnder site at top base P key v
read_under site at top base P B V h key old _ x (Here v e) =
    record { deeper = key; word = subst (λ (y : ℕ). IsWordOf at top base P key y) (sym e) x; deep = omega arith; in_cube = λ s u. u }
read_under site at top base P B V h key old _ x (Below c k v q l e) =
    let f = read_under site at top base P B V h key old (cell_word c) x q in
    let g = h.names_cell f.deeper c f.word in
    let one : 1 ≤ at (key_place c) = cell_key_positive site at top base P B V h c g.0 in
    record {
      deeper = 8 * at (key_place c) + k;
      word = Child c k g.0 l refl e;
      deep = omega (arith, f.deep, g.1);
      in_cube = λ s u. f.in_cube s (subst (λ (y : ℕ). IsUnder y s) g.1 (under_up s (at (key_place c)) k one l u));
    }

-- a word that is read below a word which names no cell is that word
pub read_alone : (at : ℕ → ℕ) (old v : ℕ) → ((c : ℕ) → old ≡ cell_word c → ⊥) → IsReached at old v → v ≡ old
read_alone at old _ h (Here v e) = e
read_alone at old _ h (Below c k v q l e) = absurd (h c (sym (read_alone at old (cell_word c) h q)))

module _ (site : ℕ → Site) (at at' : ℕ → ℕ) (top top' base : ℕ) (P Q B M V N : ℕ → Type 0) (key old w : ℕ)
    (r : Replaces site at at' top top' base P Q B M V N key old w) where
  abbrev Stays : ℕ → Type 0
  Stays c = CellsOutside at old P c

  abbrev Cells : ℕ → Type 0
  Cells c = Either (CellsOutside at old P) Q c

  h : StandsAmid site at top base P B V
  h = r.before

  -- a cell with a child of a key, under its key of afterwards
  moved : (c k j : ℕ) → k ≡ 8 * at (key_place c) + j → Stays c → k ≡ 8 * at' (key_place c) + j
  moved c k j e o = e ∙ ap (λ y. 8 * y + j) (sym (r.keys_stay c o))

  -- a word that is not read below the old one stays
  stays : (k v : ℕ) → (IsReached at old v → ⊥) → IsWordOf at top base P k v → IsWordOf at' top' base Cells k v
  stays k v out (Top e x) = elim (same_or_not base key) [
    | inl s ↦ absurd (out (Here v (one_word site at top base P B V h key v old (Top (sym s) x) r.there)))
    | inr d ↦ Top e (x ∙ sym (r.top_stays d))
  ]
  stays k v out (Child c j p l e x) =
      let o : Stays c = (p, λ q. out (Below c j v q l x)) in
      elim (same_or_not (8 * at (key_place c) + j) key) [
        | inl s ↦ absurd (out (Here v (one_word site at top base P B V h key v old (Child c j p l (sym s) x) r.there)))
        | inr d ↦ Child c j (inl o) l (moved c k j e o) (x ∙ sym (r.child_stays c j o l d))
      ]

  -- the new word is the key's
  new_word : IsWordOf at top base P key old → IsWordOf at' top' base Cells key w
  new_word (Top e x) = Top e (sym (r.top_new (sym e)))
  new_word (Child c j p l e x) =
      let o : Stays c = (
        p,
        λ q.
            let f = read_under site at top base P B V h key old (cell_word c) r.there q in
            let g = h.names_cell f.deeper c f.word in
            omega (arith, f.deep, g.1, cell_key_positive site at top base P B V h c p),
      ) in
      Child c j (inl o) l (moved c key j e o) (sym (r.child_new c j o l (sym e)))

  -- a word of the new part is one of the whole
  comes : (k v : ℕ) → IsWordOf at' w key Q k v → IsWordOf at' top' base Cells k v
  comes k v (Top e x) =
      subst (λ (y : ℕ). IsWordOf at' top' base Cells y v) (sym e) (subst (λ (y : ℕ). IsWordOf at' top' base Cells key y) (sym x) (new_word r.there))
  comes k v (Child c j q l e x) = Child c j (inr q) l e x

  -- a key is not the replaced word's, and none of a child of a cell that is read below it
  record IsElsewhere (k : ℕ) : Type 0 where
    apart : k ≢ key
    no_child : (c j : ℕ) → P c → IsReached at old (cell_word c) → j < 8 → k ≡ 8 * at (key_place c) + j → ⊥

  -- what is named elsewhere by words of one key alone is not read below the old word
  not_read : (k v : ℕ) → IsElsewhere k → ((k' : ℕ) → IsWordOf at top base P k' v → k ≡ k') → IsReached at old v → ⊥
  not_read k _ s one (Here v e) = s.apart (one key (subst (λ (y : ℕ). IsWordOf at top base P key y) (sym e) r.there))
  not_read k _ s one (Below c j v q l e) =
      let f = read_under site at top base P B V h key old (cell_word c) r.there q in
      let p = (h.names_cell f.deeper c f.word).0 in
      s.no_child c j p q l (one (8 * at (key_place c) + j) (Child c j p l refl e))

  -- a word of the whole is an old one, elsewhere, or one of the new part
  which : (k v : ℕ) → IsWordOf at' top' base Cells k v → (IsWordOf at top base P k v × IsElsewhere k) ⊎ IsWordOf at' w key Q k v
  which k v (Top e x) = elim (same_or_not base key) [
    | inl s ↦ inr (Top (e ∙ s) (x ∙ r.top_new s))
    | inr d ↦ inl (
      Top e (x ∙ r.top_stays d),
      record
          { apart = λ y. d (sym e ∙ y); no_child = λ c i p q l y. child_below_top site at top base P B V h c i p (sym y ∙ e) },
    )
  ]
  which k v (Child c j (inl o) l e x) =
      let was : k ≡ 8 * at (key_place c) + j = e ∙ ap (λ y. 8 * y + j) (r.keys_stay c o) in
      elim (same_or_not (8 * at (key_place c) + j) key) [
        | inl s ↦ inr (Top (was ∙ s) (x ∙ r.child_new c j o l s))
        | inr d ↦ inl (
          Child c j o.0 l was (x ∙ r.child_stays c j o l d),
          record {
            apart = λ y. d (sym was ∙ y);
            no_child = λ b i p q m y.
                let up : at (key_place b) ≡ at (key_place c) = same_parent (at (key_place b)) (at (key_place c)) i j m l (sym y ∙ was) in
                o.1 (subst (λ (z : ℕ). IsReached at old (cell_word z)) (h.keys_differ b c p o.0 up) q);
          },
        )
      ]
  which k v (Child c j (inr q) l e x) = inr (Child c j q l e x)

  -- no cell that stays has the key of a new one
  apart : (c d : ℕ) → Stays c → Q d → at (key_place c) ≡ at' (key_place d) → ⊥
  apart c d o q e =
      let f = sharer (r.below.shared d q) in
      let s : Site = site f.one in
      let new : IsWordOf at' w key Q (key_of s f.level) (cell_word d) =
      subst (λ (x : ℕ). IsWordOf at' w key Q x (cell_word d)) f.one_under (r.below.cell_named d q) in
      let b = below_top site at' w key Q M N r.below s f.level (cell_word d) new in
      let mine : IsWordOf at top base P (key_of s f.level) (cell_word c) =
      subst (λ (x : ℕ). IsWordOf at top base P x (cell_word c)) (e ∙ f.one_under) (h.cell_named c o.0) in
      let here : IsWordOf at top base P (key_of s b.top_level) old = subst (λ (x : ℕ). IsWordOf at top base P x old) b.is_base r.there in
      o.1 (reached_below site at top base P B V h s f.level (cell_word c) b.top_level old mine here b.above)

  differ : (c d : ℕ) → Cells c → Cells d → at' (key_place c) ≡ at' (key_place d) → c ≡ d
  differ c d (inl p) (inl q) e = h.keys_differ c d p.0 q.0 (sym (r.keys_stay c p) ∙ e ∙ r.keys_stay d q)
  differ c d (inl p) (inr q) e = absurd (apart c d p q (sym (r.keys_stay c p) ∙ e))
  differ c d (inr p) (inl q) e = absurd (apart d c q p (sym (r.keys_stay d q) ∙ sym e))
  differ c d (inr p) (inr q) e = r.below.keys_differ c d p q e

  cell_named : (c : ℕ) → Cells c → IsWordOf at' top' base Cells (at' (key_place c)) (cell_word c)
  cell_named c (inl o) =
      subst (λ (x : ℕ). IsWordOf at' top' base Cells x (cell_word c)) (sym (r.keys_stay c o)) (stays (at (key_place c)) (cell_word c) o.1 (h.cell_named c o.0))
  cell_named c (inr q) = comes (at' (key_place c)) (cell_word c) (r.below.cell_named c q)

  names_cell : (k c : ℕ) → (IsWordOf at top base P k (cell_word c) × IsElsewhere k) ⊎ IsWordOf at' w key Q k (cell_word c) → Cells c × (at' (key_place c) ≡ k)
  names_cell k c (inl x) =
      let f = h.names_cell k c x.0 in
      let o : Stays c = (f.0, not_read k (cell_word c) x.1 (λ k' y. sym f.1 ∙ (h.names_cell k' c y).1)) in
      (inl o, r.keys_stay c o ∙ f.1)
  names_cell k c (inr x) = let f = r.below.names_cell k c x in (inr f.0, f.1)

  body_named : (n : ℕ) → Either (BodiesOutside at old B) M n → IsNamed site at' top' base Cells n
  body_named n (inl b) =
      let f = h.body_named n b.0 in
      record { level = f.level; shallow = f.shallow; named = stays (key_of (site n) f.level) (body_word n) b.1 f.named }
  body_named n (inr m) =
      let f = r.below.body_named n m in
      record { level = f.level; shallow = f.shallow; named = comes (key_of (site n) f.level) (body_word n) f.named }

  names_body : (k n : ℕ) → (IsWordOf at top base P k (body_word n) × IsElsewhere k) ⊎ IsWordOf at' w key Q k (body_word n)
      → Either (BodiesOutside at old B) M n × IsUnder k (site n)
  names_body k n (inl x) =
      let f = h.names_body k n x.0 in
      (inl (f.0, not_read k (body_word n) x.1 (λ k' y. one_key_of_body site at top base P B V h n k k' x.0 y)), f.1)
  names_body k n (inr x) = let f = r.below.names_body k n x in (inr f.0, f.1)

  shared : (c : ℕ) → Cells c → IsShared site (Either V N) (at' (key_place c))
  shared c (inl o) = subst (λ (x : ℕ). IsShared site (Either V N) x) (sym (r.keys_stay c o)) (shared_more (λ n b. inl b) (h.shared c o.0))
  shared c (inr q) = shared_more (λ n b. inr b) (r.below.shared c q)

  -- the words then stand for the bodies outside and the new ones, with the cells outside and the new ones
  pub replaced : StandsAmid site at' top' base (Either (CellsOutside at old P) Q) (Either (BodiesOutside at old B) M) (Either V N)
  replaced = record {
    keys_differ = differ;
    cell_named = cell_named;
    names_cell = λ k c x. names_cell k c (which k (cell_word c) x);
    body_named = body_named;
    names_body = λ k n x. names_body k n (which k (body_word n) x);
    shared = shared;
  }
