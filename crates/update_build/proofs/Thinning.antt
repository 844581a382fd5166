-- Swept words: those at the places of movers are empty.
use Rattle.std.proofs.Common.{ℕ, ◌+◌, ◌*◌, ◌<◌, ◌≤◌, ◌≡◌, ◌≢◌, ◌↔◌, sym, ◌∙◌, ap, subst, inl, inr, arith, List, length}
use Rattle.bh_model.proofs.Equal.{same_or_not}
use Rattle.octant_code.specs.Points.{site_at}
use Rattle.octant_code.specs.Space.{IsUnder, Site, key_of}
use Rattle.tree_rule.proofs.Laws.{amid_same, body_reached, cell_reached, one_key_of_body, one_place, place_of_word, shared_more, word_at_place}
use Rattle.tree_rule.specs.Flat.{ChildPlace, IsPlaceOf, IsShared, IsWordOf, StandsAmid, TopPlace}
use Rattle.tree_rule.specs.Words.{HasBody, HasCell, at_of, body_word, cell_word, child_place, key_place, lock_place}
use Rattle.tree_passes.specs.Counting.{times}
use Rattle.update_build.specs.Moving.{ArePlacesOf, AreWordsOf, IsLeafAt, IsThinnedBy}
use Rattle.update_build.specs.Sweeping.{AreSwept}
use Rattle.update_build.proofs.Staying.{word_of_reading}

module _ (sites news : List Site) (before after bodies places : List ℕ) (h : AreWordsOf sites before) (are : ArePlacesOf before bodies places)
    (stay : (n key i : ℕ) → times n bodies ≡ 0 → IsLeafAt before key n i → IsUnder key (site_at news n)) (swept : AreSwept before after places) where
  abbrev site : ℕ → Site
  site = site_at sites

  abbrev P : ℕ → Type 0
  P = HasCell before

  abbrev V : ℕ → Type 0
  V n = n < length sites

  -- a word at no mover's place is as it was
  stays : (i : ℕ) → times i places ≡ 0 → at_of after i ≡ at_of before i
  stays i none = swept.others i none

  -- a body that is left
  abbrev IsLeft : ℕ → Type 0
  IsLeft n = HasBody before n × (times n bodies ≡ 0)

  -- and at a mover's place it is empty
  empty : (i : ℕ) → 1 ≤ times i places → at_of after i ≡ 0
  empty i more = swept.emptied i more

  -- keys and locks stand at no mover's place
  aside : (i : ℕ) → i ≢ 0 → ((c k : ℕ) → k < 8 → i ≢ child_place c k) → times i places ≡ 0
  aside i off none = elim (same_or_not (times i places) 0) [
    | inl e ↦ e
    | inr more ↦ (let f = are.named i (omega arith) in absurd (there f.3.0))
  ]
    where
      there : {key : ℕ} → IsPlaceOf (at_of before) 0 1 (HasCell before) key i → ⊥
      there (TopPlace k e) = off e
      there (ChildPlace c j p l k e) = none c j l e

  keys : (c : ℕ) → at_of after (key_place c) ≡ at_of before (key_place c)
  keys c = stays (key_place c) (aside (key_place c) (λ e. omega arith) (λ d k l e. omega arith))

  -- a word that names something is as it was
  place_back : (key i : ℕ) → IsPlaceOf (at_of after) 0 1 P key i → IsPlaceOf (at_of before) 0 1 P key i
  place_back key i (TopPlace k e) = TopPlace k e
  place_back key i (ChildPlace c j p l k e) = ChildPlace c j p l (k ∙ ap (λ y. 8 * y + j) (keys c)) e

  place_on : (key i : ℕ) → IsPlaceOf (at_of before) 0 1 P key i → IsPlaceOf (at_of after) 0 1 P key i
  place_on key i (TopPlace k e) = TopPlace k e
  place_on key i (ChildPlace c j p l k e) = ChildPlace c j p l (k ∙ ap (λ y. 8 * y + j) (sym (keys c))) e

  -- a word that names something stands at no mover's place
  named_there : (i w : ℕ) → w ≢ 0 → w ≡ at_of after i → times i places ≡ 0
  named_there i w some e = elim (same_or_not (times i places) 0) [ inl f ↦ f | inr more ↦ absurd (some (e ∙ empty i (omega arith))) ]

  word_back : (key w : ℕ) → w ≢ 0 → IsWordOf (at_of after) (at_of after 0) 1 P key w → IsWordOf (at_of before) (at_of before 0) 1 P key w
  word_back key w some x =
      let f = place_of_word (at_of after) 0 1 P key w x in
      subst (λ (y : ℕ). IsWordOf (at_of before) (at_of before 0) 1 P key y) (sym (f.holds ∙ stays f.place (named_there f.place w some f.holds)))
      (word_at_place (at_of before) 0 1 P key f.place (place_back key f.place f.of_key))

  word_on : (key w i : ℕ) → IsPlaceOf (at_of before) 0 1 P key i → w ≡ at_of before i → times i places ≡ 0
      → IsWordOf (at_of after) (at_of after 0) 1 P key w
  word_on key w i there e none =
      subst (λ (y : ℕ). IsWordOf (at_of after) (at_of after 0) 1 P key y) (stays i none ∙ sym e)
      (word_at_place (at_of after) 0 1 P key i (place_on key i there))

  -- the word of a cell stands at no mover's place
  cell_aside : (i c : ℕ) → at_of before i ≡ cell_word c → times i places ≡ 0
  cell_aside i c e = elim (same_or_not (times i places) 0) [
    | inl f ↦ f
    | inr more ↦ (let f = are.named i (omega arith) in absurd (omega (arith, e, f.3.1)))
  ]

  -- the places of a body's word are one
  one_leaf : (n key other i j : ℕ) → IsLeafAt before key n i → IsLeafAt before other n j → i ≡ j
  one_leaf n key other i j x y =
      let word : (k p : ℕ) → IsLeafAt before k n p → IsWordOf (at_of before) (at_of before 0) 1 P k (body_word n) = λ k p leaf.
      subst (λ (u : ℕ). IsWordOf (at_of before) (at_of before 0) 1 P k u) leaf.1 (word_at_place (at_of before) 0 1 P k p leaf.0) in
      let same : other ≡ key = one_key_of_body site (at_of before) (at_of before 0) 1 P (HasBody before) (HasBody before) h.stands n other key
      (word other j y) (word key i x) in
      one_place site (at_of before) 0 1 P (HasBody before) (HasBody before) h.stands key i j x.0
      (subst (λ (u : ℕ). IsPlaceOf (at_of before) 0 1 P u j) same y.0)

  -- a body that is named is left
  left : (n key : ℕ) → IsWordOf (at_of after) (at_of after 0) 1 P key (body_word n) → IsLeft n × IsUnder key (site n)
  left n key x =
      let y = word_back key (body_word n) (λ e. omega arith) x in
      let g = h.stands.names_body key n y in
      let f = place_of_word (at_of after) 0 1 P key (body_word n) x in
      let none = named_there f.place (body_word n) (λ e. omega arith) f.holds in
      let leaf : IsLeafAt before key n f.place = (place_back key f.place f.of_key, sym (f.holds ∙ stays f.place none)) in (
        (
          g.0,
          elim (same_or_not (times n bodies) 0) [
            | inl e ↦ e
            | inr some ↦
                let u = are.each n (omega arith) in
                let same : u.0 ≡ f.place = one_leaf n u.1 key u.0 f.place u.3 leaf in
                absurd (omega (arith, u.2, none, ap (λ i. times i places) same))
          ],
        ),
        g.1,
      )

  -- the word of a body that is left stands at no emptied place
  body_aside : (n key i : ℕ) → times n bodies ≡ 0 → IsLeafAt before key n i → times i places ≡ 0
  body_aside n key i none leaf = elim (same_or_not (times i places) 0) [
    | inl e ↦ e
    | inr some ↦
        let u = are.named i (omega arith) in
        let same : u.0 ≡ n = omega (arith, leaf.1, u.3.1) in
        absurd (omega (arith, u.2, none, ap (λ m. times m bodies) same))
  ]

  -- the words name the bodies that are left, amid all
  amid : StandsAmid site (at_of after) (at_of after 0) 1 P IsLeft V
  amid = record {
    keys_differ = λ c d p q e. h.stands.keys_differ c d p q (sym (keys c) ∙ e ∙ keys d);
    cell_named = λ c p.
        let f = place_of_word (at_of before) 0 1 P (at_of before (key_place c)) (cell_word c) (h.stands.cell_named c p) in
        subst (λ (u : ℕ). IsWordOf (at_of after) (at_of after 0) 1 P u (cell_word c)) (sym (keys c))
        (word_on (at_of before (key_place c)) (cell_word c) f.place f.of_key f.holds (cell_aside f.place c (sym f.holds)));
    names_cell = λ key c x.
        let f = h.stands.names_cell key c (word_back key (cell_word c) (λ e. omega arith) x) in
        (f.0, keys c ∙ f.1);
    body_named = λ n b.
        let g = h.stands.body_named n b.0 in
        let f = place_of_word (at_of before) 0 1 P (key_of (site n) g.level) (body_word n) g.named in
        record {
          level = g.level;
          shallow = g.shallow;
          named = word_on (key_of (site n) g.level) (body_word n) f.place f.of_key f.holds
              (body_aside n (key_of (site n) g.level) f.place b.1 (f.of_key, sym f.holds));
        };
    names_body = λ key n x. left n key x;
    shared = λ c p. subst (λ (u : ℕ). IsShared site V u) (sym (keys c)) (shared_more (λ n b. (h.bodies n).0 b) (h.stands.shared c p));
  }

  cells_are : (c : ℕ) → HasCell before c ↔ HasCell after c
  cells_are c = cell_reached site (at_of after) (at_of after 0) 1 P IsLeft amid c

  bodies_are : (n : ℕ) → IsLeft n ↔ HasBody after n
  bodies_are n = body_reached site (at_of after) (at_of after 0) 1 P IsLeft amid n

  pub thinned_by : IsThinnedBy sites news before after bodies
  thinned_by = record {
    thinned = record {
      cells = h.rule.cells;
      few = h.rule.few;
      long = swept.long ∙ h.rule.long;
      unlocked = record {
        second = stays 1 (aside 1 (λ e. omega arith) (λ c k l e. omega arith)) ∙ h.rule.unlocked.second;
        third = stays 2 (aside 2 (λ e. omega arith) (λ c k l e. omega arith)) ∙ h.rule.unlocked.third;
        locks = λ c l. stays (lock_place c) (aside (lock_place c) (λ e. omega arith) (λ d k m e. omega arith)) ∙ h.rule.unlocked.locks c l;
      };
      cells_held = λ c has. h.rule.cells_held c ((cells_are c).1 has);
      stands = amid_same site (at_of after) (at_of after 0) 1 P (HasCell after) IsLeft (HasBody after) V V cells_are bodies_are (λ n v. v) amid;
      bodies_in = λ n b. (h.bodies n).0 ((bodies_are n).1 b).0;
    };
    under = λ key n read.
        let x = word_of_reading site (at_of after) (at_of after 0) 1 P IsLeft V amid key (body_word n) read in
        let f = place_of_word (at_of after) 0 1 P key (body_word n) x in
        let none = named_there f.place (body_word n) (λ e. omega arith) f.holds in
        stay n key f.place (left n key x).0.1 (place_back key f.place f.of_key, sym (f.holds ∙ stays f.place none));
    cells = λ c has. (cells_are c).1 has;
    keys = keys;
    left = λ n. ((bodies_are n).1, (bodies_are n).0);
  }
