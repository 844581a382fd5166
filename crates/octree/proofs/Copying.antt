-- What stands below a word of an octree is copied, one cell after another.
use Rattle.std.proofs.Common.{ℕ, ◌+◌, ◌*◌, ◌^◌, ◌<◌, ◌≤◌, ◌≡◌, ◌≢◌, ◌⊎◌, ◌↔◌, refl, sym, ◌∙◌, ap, subst, inl, inr, arith, List, length, slice_set}
use Rattle.std.proofs.lemmas.Bool.{cases_lt}
use Rattle.std.proofs.lemmas.List.{set-get_or}
use Rattle.octant_code.proofs.Nested.{prefix_child, prefix_self, prefix_then}
use Rattle.octant_code.specs.Points.{site_at}
use Rattle.octant_code.specs.Prefixes.{IsPrefix}
use Rattle.octant_code.specs.Space.{Site}
use Rattle.octree.proofs.Growing.{body_put}
use Rattle.octree.proofs.Insertions.{base_positive, stands_of}
use Rattle.octree.proofs.ReadWords.{reached_blank}
use Rattle.octree.proofs.Subtrees.{below_cell, under_word, word_under}
use Rattle.octree.proofs.Words.{at_set_other, set_length}
use Rattle.octree.specs.ByKeys.{IsInSome}
use Rattle.octree.specs.Growing.{IsCellPut, IsCopied, IsFreePlace, IsGrowing, IsMade, IsSource, cells_in}
use Rattle.octree.specs.Stored.{IsStored, Stored, root_word}
use Rattle.tree_rule.proofs.Laws.{ACell, NoBody, OneBody, forget, keys_grow, shared_more, word_is}
use Rattle.tree_rule.specs.Flat.{ChildPlace, IsShared}
use Rattle.tree_rule.specs.Sound.{BelowAs, IsReachedAs}
use Rattle.tree_rule.specs.Words.{HasBody, HasCell, Here, IsReached, at_of, body_word, cell_word, child_place, key_place}

-- nothing is copied
pub none_copied : (sites : List Site) (parts : List Stored) (o : Stored) (key word place : ℕ) (before : List ℕ) → IsGrowing sites parts before
    → word ≡ 0 → IsCopied sites parts o key word before before place
none_copied sites parts o key word place before g e = record {
  grown = g;
  more = omega arith;
  kept = λ i l d. refl;
  keyed = λ c l m. absurd (omega arith);
  bodies = λ n. ((λ b. inl b), (λ b. elim b [ inl x ↦ x | inr x ↦ absurd (omega (arith, reached_blank (at_of o.words) word (body_word n) e x)) ]));
}

-- one body is copied
pub body_copied : (sites : List Site) (parts : List Stored) (o : Stored) (key word place n : ℕ) (before : List ℕ) → IsGrowing sites parts before
    → IsFreePlace before key place → IsSource sites parts o key word → word ≡ body_word n
    → IsCopied sites parts o key word before (slice_set before place word) place
body_copied sites parts o key word place n before g free source e =
    let read : IsReachedAs (at_of o.words) (root_word o) o.base key (body_word n) =
    subst (λ (y : ℕ). IsReachedAs (at_of o.words) (root_word o) o.base key y) e source.read in
    let put = body_put sites parts before key place n word g free (source.canonical.under key n read) e in
    let long : length (slice_set before place word) ≡ length before = set_length before place word in
    record {
      grown = put.0;
      more = omega (arith, long);
      kept = λ i l d. at_set_other before place i word d;
      keyed = λ c l m. absurd (omega (arith, long, m));
      bodies = λ m. (
        (λ b. elim ((put.1 m).1 b) [ inl x ↦ inl x | inr x ↦ inr (Here (body_word m) (ap body_word x ∙ sym e)) ]),
        (λ b. (put.1 m).0 (elim b [
          | inl x ↦ inl x
          | inr x ↦
              let same : body_word m ≡ word = word_under (at_of o.words) word (body_word m) (λ c f. omega arith) x in
              inr (omega arith)
        ])),
      );
    }

-- what names no cell is copied by one write: a body, or nothing in place of nothing
pub word_copied : (sites : List Site) (parts : List Stored) (o : Stored) (key word place : ℕ) (before : List ℕ) → IsGrowing sites parts before
    → IsFreePlace before key place → IsSource sites parts o key word → ((c : ℕ) → word ≡ cell_word c → ⊥)
    → IsCopied sites parts o key word before (slice_set before place word) place
word_copied sites parts o key word place before g free source no_cell = elim (word_is word) [
  | NoBody e ↦
      let same : slice_set before place word ≡ before =
      ap (λ y. slice_set before place y) (e ∙ sym free.empty) ∙ set-get_or before place 0 in
      subst (λ (now : List ℕ). IsCopied sites parts o key word before now place) (sym same) (none_copied sites parts o key word place before g e)
  | OneBody n e ↦ body_copied sites parts o key word place n before g free source e
  | ACell c e ↦ absurd (no_cell c e)
]

-- ---- a cell

-- a body below one of the first children of a cell
pub record IsBelowFirst (at : ℕ → ℕ) (cell count n : ℕ) : Type 0 where
  pub octant : ℕ
  pub small : octant < count
  pub read : IsReached at (at (child_place cell octant)) (body_word n)

-- The words when a cell was put and the first of its children are copied.
pub record AreChildrenCopied (sites : List Site) (parts : List Stored) (o : Stored) (key cell : ℕ) (before now : List ℕ) (place copy count : ℕ) : Type 0 where
  pub grown : IsGrowing sites parts now
  pub number : copy ≡ cells_in before
  pub more : length before + 10 ≤ length now
  pub kept : (i : ℕ) → i < length before → i ≢ place → at_of now i ≡ at_of before i
  pub copy_key : at_of now (key_place copy) ≡ key
  pub blank : (k : ℕ) → count ≤ k → k < 8 → at_of now (child_place copy k) ≡ 0
  pub keyed : (c : ℕ) → cells_in before ≤ c → IsMade now c → IsPrefix key (at_of now (key_place c))
  pub bodies : (n : ℕ) → HasBody now n ↔ (HasBody before n ⊎ IsBelowFirst (at_of o.words) cell count n)

module _ (sites : List Site) (parts : List Stored) (o : Stored) (key word cell : ℕ) (stored : IsStored o) (source : IsSource sites parts o key word)
    (names : word ≡ cell_word cell) where
  abbrev at : ℕ → ℕ
  at = at_of o.words

  -- the cell is read
  pub cell_read : IsReachedAs (at_of o.words) (root_word o) o.base key (cell_word cell)
  cell_read = subst (λ (y : ℕ). IsReachedAs (at_of o.words) (root_word o) o.base key y) names source.read

  pub cell_has : HasCell o.words cell
  cell_has = forget (at_of o.words) (root_word o) o.base key (cell_word cell) cell_read

  -- its key is not 0, and of a level of cells
  pub cell_positive : 1 ≤ key
  cell_positive = omega (arith, base_positive o stored, keys_grow (at_of o.words) (root_word o) o.base key (cell_word cell) cell_read)

  pub cell_shallow : key < 2 * 8 ^ 20
  cell_shallow = omega (arith, stored.sound.shallow key cell cell_read)

  -- bodies of the parts share its cube
  pub cell_shared : IsShared (site_at sites) (IsInSome parts) key
  cell_shared =
      subst (λ (y : ℕ). IsShared (site_at sites) (IsInSome parts) y) (stored.sound.keys_follow key cell cell_read)
      (shared_more source.witnesses ((stands_of sites o stored source.canonical).shared cell cell_has))

  -- a child is a source
  pub child_source : (k child : ℕ) → k < 8 → child ≡ at_of o.words (child_place cell k) → IsSource sites parts o (8 * key + k) child
  child_source k child small e = record {
    canonical = source.canonical;
    witnesses = source.witnesses;
    read = BelowAs cell k key (8 * key + k) child cell_read small refl e;
  }

  module _ (before : List ℕ) (place copy : ℕ) where
    abbrev AreUpTo : List ℕ → ℕ → Type 0
    AreUpTo now count = AreChildrenCopied sites parts o key cell before now place copy count

    -- the cell was put
    pub children_none : (now : List ℕ) → IsGrowing sites parts before → IsCellPut sites parts before now key place copy → AreUpTo now 0
    children_none now g put = record {
      grown = put.grown;
      number = put.number;
      more = omega (arith, put.more);
      kept = put.kept;
      copy_key = put.keyed;
      blank = λ k l m. put.blank k m;
      keyed = λ c l m.
          let here : c ≡ copy = omega (arith, m, put.number, put.more, g.long) in
          subst (IsPrefix key) (sym (ap (λ d. at_of now (key_place d)) here ∙ put.keyed)) (prefix_self key cell_positive);
      bodies = λ n. (
        (λ b. inl ((put.bodies n).0 b)),
        (λ b. (put.bodies n).1 (elim b [ inl x ↦ x | inr x ↦ absurd (omega (arith, x.small)) ])),
      );
    }

    -- the place of a child that was not copied
    pub child_free : (now : List ℕ) (k inner there : ℕ) → IsGrowing sites parts before → AreUpTo now k → k < 8 → inner ≡ 8 * key + k
        → there ≡ child_place copy k → IsFreePlace now inner there
    child_free now k inner there g h small is at_it = record {
      of_key = ChildPlace copy k (omega (arith, h.number, h.more, g.long, h.grown.long)) small (is ∙ ap (λ y. 8 * y + k) (sym h.copy_key)) at_it;
      empty = ap (at_of now) at_it ∙ h.blank k (omega arith) small;
    }

    -- and it is copied
    pub children_more : (now next : List ℕ) (k child inner there : ℕ) → IsGrowing sites parts before → AreUpTo now k → k < 8 → inner ≡ 8 * key + k
        → there ≡ child_place copy k → child ≡ at_of o.words (child_place cell k) → IsCopied sites parts o inner child now next there
        → AreUpTo next (k + 1)
    children_more now next k child inner there g h small is at_it child_is c = record {
      grown = c.grown;
      number = h.number;
      more = omega (arith, h.more, c.more);
      kept = λ i l d. c.kept i (omega (arith, h.more)) (λ e. omega (arith, h.number, g.long)) ∙ h.kept i l d;
      copy_key = c.kept (key_place copy) (omega (arith, h.number, h.more, g.long)) (λ e. omega arith) ∙ h.copy_key;
      blank = λ j l m. c.kept (child_place copy j) (omega (arith, h.number, h.more, g.long)) (λ e. omega arith) ∙ h.blank j (omega arith) m;
      keyed = λ d l m. elim (cases_lt d (cells_in now)) [
        | inl old ↦
            subst (IsPrefix key) (sym (c.kept (key_place d) (omega (arith, h.grown.long)) (λ e. omega arith))) (h.keyed d l old)
        | inr new ↦
            prefix_then key inner (at_of next (key_place d)) (subst (IsPrefix key) (sym is) (prefix_child key k cell_positive small)) (c.keyed d new m)
      ];
      bodies = λ n. (
        (λ b. elim ((c.bodies n).0 b) [
          | inl x ↦ elim ((h.bodies n).0 x) [
            | inl y ↦ inl y
            | inr y ↦ inr (record { octant = y.octant; small = omega (arith, y.small); read = y.read })
          ]
          | inr x ↦ inr (record { octant = k; small = omega arith; read = subst (λ (y : ℕ). IsReached at y (body_word n)) child_is x })
        ]),
        (λ b. (c.bodies n).1 (elim b [
          | inl x ↦ inl ((h.bodies n).1 (inl x))
          | inr x ↦ elim (cases_lt x.octant k) [
            | inl l ↦ inl ((h.bodies n).1 (inr (record { octant = x.octant; small = l; read = x.read })))
            | inr l ↦
                let last : x.octant ≡ k = omega (arith, x.small) in
                inr (subst (λ (y : ℕ). IsReached at y (body_word n)) (ap (λ j. at (child_place cell j)) last ∙ sym child_is) x.read)
          ]
        ])),
      );
    }

    -- the cell is copied when all its children are
    pub children_all : (now : List ℕ) → AreUpTo now 8 → IsCopied sites parts o key word before now place
    children_all now h = record {
      grown = h.grown;
      more = omega (arith, h.more);
      kept = h.kept;
      keyed = h.keyed;
      bodies = λ n. (
        (λ b. elim ((h.bodies n).0 b) [
          | inl x ↦ inl x
          | inr x ↦ inr (subst (λ (y : ℕ). IsReached at y (body_word n)) (sym names) (below_cell at cell x.octant (body_word n) x.small x.read))
        ]),
        (λ b. (h.bodies n).1 (elim b [
          | inl x ↦ inl x
          | inr x ↦ elim (under_word at cell (body_word n) (subst (λ (y : ℕ). IsReached at y (body_word n)) names x)) [
            | inl f ↦ absurd (omega arith)
            | inr f ↦ inr (record { octant = f.octant; small = f.small; read = f.read })
          ]
        ])),
      );
    }
