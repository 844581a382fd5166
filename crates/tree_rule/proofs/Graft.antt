-- A published word that names no cell is changed to one below which stand bodies of its cube.
use Rattle.std.proofs.Common.{ℕ, ◌+◌, ◌*◌, ◌<◌, ◌≡◌, ◌≢◌, sym, refl, ◌∙◌, ap, subst, inl, inr, arith}
use Rattle.octant_code.specs.Space.{Site}
use Rattle.bh_model.proofs.Equal.{same_or_not}
use Rattle.octant_code.proofs.Keys.{same_child, same_parent}
use Rattle.tree_rule.proofs.Flat.{child_below_top}
use Rattle.tree_rule.proofs.Replace.{BodiesOutside, CellsOutside, Replaces, read_alone, replaced}
use Rattle.tree_rule.proofs.Walk.{amid_same, cell_is_reached}
use Rattle.tree_rule.specs.Flat.{ChangedAt, Child, ChildPlace, Either, IsPlaceOf, IsWordOf, StandsAmid, Top, TopPlace}
use Rattle.tree_rule.specs.declared.words.TheConstants.{FIRST_PLACE}
use Rattle.tree_rule.specs.Words.{Below, Here, IsReached, body_word, cell_word, child_place, key_place}

-- the word at the place of a key is the key's
pub word_at_place : (at : ℕ → ℕ) (first base : ℕ) (IsCell : ℕ → Type 0) (key place : ℕ) → IsPlaceOf at first base IsCell key place
    → IsWordOf at (at first) base IsCell key (at place)
word_at_place at first base IsCell key place (TopPlace k e) = Top k (ap at e)
word_at_place at first base IsCell key place (ChildPlace c j p l k e) = Child c j p l k (ap at e)

-- the place of a word
pub record HasPlace (at : ℕ → ℕ) (first base : ℕ) (IsCell : ℕ → Type 0) (key w : ℕ) : Type 0 where
  pub place : ℕ
  pub of_key : IsPlaceOf at first base IsCell key place
  pub holds : w ≡ at place

-- each word of a key stands at the key's place
pub place_of_word : (at : ℕ → ℕ) (first base : ℕ) (IsCell : ℕ → Type 0) (key w : ℕ) → IsWordOf at (at first) base IsCell key w
    → HasPlace at first base IsCell key w
place_of_word at first base IsCell key w (Top k e) = record { place = first; of_key = TopPlace k refl; holds = e }
place_of_word at first base IsCell key w (Child c j p l k e) = record { place = child_place c j; of_key = ChildPlace c j p l k refl; holds = e }

-- no key stands at a place of a word, where the root word stands before all cells
pub key_apart : (at : ℕ → ℕ) (first base : ℕ) (IsCell : ℕ → Type 0) (key place c : ℕ) → first < FIRST_PLACE → IsPlaceOf at first base IsCell key place
    → key_place c ≢ place
key_apart at first base IsCell key place c low (TopPlace k e) = λ x. omega arith
key_apart at first base IsCell key place c low (ChildPlace d j p l k e) = λ x. omega arith

-- a place has one key, where the root word stands before all cells
pub one_key : (at : ℕ → ℕ) (first base : ℕ) (IsCell : ℕ → Type 0) (key key' place : ℕ) → first < FIRST_PLACE → IsPlaceOf at first base IsCell key place
    → IsPlaceOf at first base IsCell key' place → key ≡ key'
one_key at first base IsCell key key' place low (TopPlace k e) (TopPlace k' e') = k ∙ sym k'
one_key at first base IsCell key key' place low (TopPlace k e) (ChildPlace c j p l k' e') = absurd (omega arith)
one_key at first base IsCell key key' place low (ChildPlace c j p l k' e') (TopPlace k e) = absurd (omega arith)
one_key at first base IsCell key key' place low (ChildPlace c j p l k e) (ChildPlace d i q m k' e') =
    let same : c ≡ d = omega arith in
    let nth : j ≡ i = omega arith in
    k ∙ (ap (λ x. 8 * at (key_place x) + j) same ∙ ap (λ x. 8 * at (key_place d) + x) nth) ∙ sym k'

-- a place stays one where the cells stay with their keys, whatever becomes of other keys
pub place_kept : (at at' : ℕ → ℕ) (first base : ℕ) (P Q : ℕ → Type 0) (key place : ℕ) → ((c : ℕ) → P c → Q c)
    → ((c : ℕ) → P c → at' (key_place c) ≡ at (key_place c))
    → IsPlaceOf at first base P key place → IsPlaceOf at' first base Q key place
place_kept at at' first base P Q key place more same (TopPlace k e) = TopPlace k e
place_kept at at' first base P Q key place more same (ChildPlace c j p l k e) = ChildPlace c j (more c p) l (k ∙ sym (ap (λ x. 8 * x + j) (same c p))) e

-- a word below which a cell is read names a cell
pub cell_on_top : (at : ℕ → ℕ) (v w c : ℕ) → IsReached at v w → w ≡ cell_word c → (d : ℕ) × (v ≡ cell_word d)
cell_on_top at v _ c (Here w e) f = (c, sym e ∙ f)
cell_on_top at v _ c (Below d k w q l e) f = cell_on_top at v (cell_word d) d q refl

-- the root word is no child word of a cell below it
pub root_apart : (site : ℕ → Site) (at : ℕ → ℕ) (first base : ℕ) (P B V : ℕ → Type 0) → StandsAmid site at (at first) base P B V
    → (c k : ℕ) → P c → k < 8 → first ≢ child_place c k
root_apart site at first base P B V h c k p l = λ e.
    let v = cell_on_top at (at first) (cell_word c) c (cell_is_reached site at (at first) base P B V h c p) refl in
    let up = h.names_cell base v.0 (Top refl (sym v.1)) in
    let down = h.names_cell (8 * at (key_place c) + k) v.0 (Child c k p l refl (sym v.1 ∙ ap at e)) in
    child_below_top site at (at first) base P B V h c k p (sym down.1 ∙ up.1)

-- the child word of a key is the changed one
child_changed : (site : ℕ → Site) (at at' : ℕ → ℕ) (top base : ℕ) (P B V : ℕ → Type 0) (key c k w : ℕ) → StandsAmid site at top base P B V → P c → k < 8
    → key ≡ 8 * at (key_place c) + k
    → ChangedAt at at' (child_place c k) w → (d i : ℕ) → CellsOutside at (at (child_place c k)) P d → i < 8 → 8 * at (key_place d) + i ≡ key
    → at' (child_place d i) ≡ w
child_changed site at at' top base P B V key c k w h p l e changed d i o m s =
    let both : 8 * at (key_place d) + i ≡ 8 * at (key_place c) + k = s ∙ e in
    let same : d ≡ c = h.keys_differ d c o.0 p (same_parent (at (key_place d)) (at (key_place c)) i k m l both) in
    let nth : i ≡ k = same_child (at (key_place d)) (at (key_place c)) i k m l both in
    let at_it : child_place d i ≡ child_place c k = omega arith in
    ap at' at_it ∙ changed.now

-- a child word at the changed place is that of the key
child_key_same : (at : ℕ → ℕ) (c k d i key : ℕ) → k < 8 → i < 8 → key ≡ 8 * at (key_place c) + k → child_place d i ≡ child_place c k
    → 8 * at (key_place d) + i ≡ key
child_key_same at c k d i key l m e z =
    let same : d ≡ c = omega arith in
    let nth : i ≡ k = omega arith in
    ap (λ x. 8 * at (key_place x) + i) same ∙ ap (λ x. 8 * at (key_place c) + x) nth ∙ sym e

-- where a word at a place of a key is changed, the word of the cube is replaced, and no other that is not read below it
pub replaces_at : (site : ℕ → Site) (at at' : ℕ → ℕ) (first base : ℕ) (P Q B M V N : ℕ → Type 0) (key place w : ℕ)
    → StandsAmid site at (at first) base P B V → StandsAmid site at' w key Q M N
    → IsPlaceOf at first base P key place → ChangedAt at at' place w → Replaces site at at' (at first) (at' first) base P Q B M V N key (at place) w
replaces_at site at at' first base P Q B M V N key place w h below (TopPlace k e) changed =
    let none : (c : ℕ) → CellsOutside at (at place) P c
    → ⊥ = λ c o. o.1 (subst (λ (y : ℕ). IsReached at (at y) (cell_word c)) (sym e) (cell_is_reached site at (at first) base P B V h c o.0)) in
    record {
      before = h;
      below = below;
      there = word_at_place at first base P key place (TopPlace k e);
      top_new = λ s. ap at' (sym e) ∙ changed.now;
      top_stays = λ d. absurd (d (sym k));
      keys_stay = λ c o. absurd (none c o);
      child_new = λ c j o l s. absurd (none c o);
      child_stays = λ c j o l d. absurd (none c o);
    }
replaces_at site at at' first base P Q B M V N key place w h below (ChildPlace c j p l k e) changed =
    let here : ChangedAt at at' (child_place c j) w = subst (λ (y : ℕ). ChangedAt at at' y w) e changed in
    subst (λ (y : ℕ). Replaces site at at' (at first) (at' first) base P Q B M V N key (at y) w) (sym e) (record {
      before = h;
      below = below;
      there = Child c j p l k refl;
      top_new = λ s. absurd (child_below_top site at (at first) base P B V h c j p (sym (s ∙ k)));
      top_stays = λ d. here.others first (root_apart site at first base P B V h c j p l);
      keys_stay = λ d o. here.others (key_place d) (λ z. omega arith);
      child_new = child_changed site at at' (at first) base P B V key c j w h p l k here;
      child_stays = λ d i o m n. here.others (child_place d i) (λ z. n (child_key_same at c j d i key l m k z));
    })

-- a published word that names no cell is changed, and what stands below the new word
pub record Grafts (site : ℕ → Site) (at at' : ℕ → ℕ) (first base : ℕ) (P Q B M V N : ℕ → Type 0) (key place w : ℕ) : Type 0 where
  pub before : StandsAmid site at (at first) base P B V
  pub below : StandsAmid site at' w key Q M N
  pub there : IsPlaceOf at first base P key place
  pub no_cell : (c : ℕ) → at place ≡ cell_word c → ⊥
  pub body_joins : (n : ℕ) → at place ≡ body_word n → M n
  pub changed : ChangedAt at at' place w

-- the cells of the whole where the old word names no cell
cells_joined : (at : ℕ → ℕ) (old : ℕ) (P Q : ℕ → Type 0) → ((c : ℕ) → old ≡ cell_word c → ⊥) → (c : ℕ) → Either P Q c → Either (CellsOutside at old P) Q c
cells_joined at old P Q none c (inl p) = inl (p, λ q. none c (sym (read_alone at old (cell_word c) none q)))
cells_joined at old P Q none c (inr q) = inr q

-- the bodies of the whole where a body that the old word names joins
bodies_joined : (at : ℕ → ℕ) (old : ℕ) (B M : ℕ → Type 0) → ((c : ℕ) → old ≡ cell_word c → ⊥) → ((n : ℕ) → old ≡ body_word n → M n)
    → (n : ℕ) → Either B M n → Either (BodiesOutside at old B) M n
bodies_joined at old B M none joins n (inl b) = elim (same_or_not old (body_word n)) [
  | inl e ↦ inr (joins n e)
  | inr d ↦ inl (b, λ q. d (sym (read_alone at old (body_word n) none q)))
]
bodies_joined at old B M none joins n (inr m) = inr m

-- what is outside is a member
still_in : (P O Q : ℕ → Type 0) (c : ℕ) → Either (λ d. P d × O d) Q c → Either P Q c
still_in P O Q c (inl p) = inl p.0
still_in P O Q c (inr q) = inr q

-- the words then stand for the bodies of both, with the cells of both
pub graft_word : (site : ℕ → Site) (at at' : ℕ → ℕ) (top top' base : ℕ) (P Q B M V N : ℕ → Type 0) (key old w : ℕ)
    → Replaces site at at' top top' base P Q B M V N key old w
    → ((c : ℕ) → old ≡ cell_word c → ⊥) → ((n : ℕ) → old ≡ body_word n → M n)
    → StandsAmid site at' top' base (Either P Q) (Either B M) (Either V N)
graft_word site at at' top top' base P Q B M V N key old w r none joins =
    amid_same site at' top' base (Either (CellsOutside at old P) Q) (Either P Q) (Either (BodiesOutside at old B) M) (Either B M) (Either V N) (Either V N)
    (λ c. (still_in P (λ d. IsReached at old (cell_word d) → ⊥) Q c, cells_joined at old P Q none c))
    (λ n. (still_in B (λ d. IsReached at old (body_word d) → ⊥) M n, bodies_joined at old B M none joins n))
    (λ n v. v) (replaced site at at' top top' base P Q B M V N key old w r)

-- the same where the words of a place are changed
pub graft : (site : ℕ → Site) (at at' : ℕ → ℕ) (first base : ℕ) (P Q B M V N : ℕ → Type 0) (key place w : ℕ)
    → Grafts site at at' first base P Q B M V N key place w
    → StandsAmid site at' (at' first) base (Either P Q) (Either B M) (Either V N)
graft site at at' first base P Q B M V N key place w g =
    graft_word site at at' (at first) (at' first) base P Q B M V N key (at place) w
    (replaces_at site at at' first base P Q B M V N key place w g.before g.below g.there g.changed) g.no_cell g.body_joins

-- the same inside a part whose top word stands at no place
pub graft_inside : (site : ℕ → Site) (at at' : ℕ → ℕ) (top base : ℕ) (P Q B M V N : ℕ → Type 0) (key c k w : ℕ) → StandsAmid site at top base P B V
    → StandsAmid site at' w key Q M N
    → P c → k < 8 → key ≡ 8 * at (key_place c) + k → ChangedAt at at' (child_place c k) w
    → ((d : ℕ) → at (child_place c k) ≡ cell_word d → ⊥) → ((n : ℕ) → at (child_place c k) ≡ body_word n → M n)
    → StandsAmid site at' top base (Either P Q) (Either B M) (Either V N)
graft_inside site at at' top base P Q B M V N key c k w h below p l e changed none joins =
    graft_word site at at' top top base P Q B M V N key (at (child_place c k)) w (record {
      before = h;
      below = below;
      there = Child c k p l e refl;
      top_new = λ s. absurd (child_below_top site at top base P B V h c k p (sym (s ∙ e)));
      top_stays = λ d. refl;
      keys_stay = λ d o. changed.others (key_place d) (λ z. omega arith);
      child_new = child_changed site at at' top base P B V key c k w h p l e changed;
      child_stays = λ d i o m n. changed.others (child_place d i) (λ z. n (child_key_same at c k d i key l m e z));
    }) none joins
