-- The flat facts on words: what stands above a word, and that the words of a key are one.
use Rattle.std.proofs.Common.{ℕ, ◌+◌, ◌*◌, ◌<◌, ◌≤◌, ◌≡◌, ◌⊎◌, zero, suc, sym, ◌∙◌, ap, subst, inl, inr, arith}
use Rattle.std.proofs.lemmas.Bool.{cases_lt}
use Rattle.octant_code.specs.Space.{Site, octant_of, key_of}
use Rattle.octant_code.proofs.Keys.{key-zero, key-suc, key-positive, octant-small, same_level, same_parent, same_child, key-deeper}
use Rattle.tree_rule.proofs.Shared.{sharer}
use Rattle.tree_rule.specs.Flat.{Child, IsWordOf, StandsAmid, Top}
use Rattle.tree_rule.specs.Words.{body_word, cell_word, child_place, key_place}

-- the top word's cube is at or above that of a point's word
pub record IsBelowTop (base : ℕ) (s : Site) (level : ℕ) : Type 0 where
  pub top_level : ℕ
  pub above : top_level ≤ level
  pub is_base : base ≡ key_of s top_level

-- the top word's cube holds that of each word of a point
pub below_top : (site : ℕ → Site) (at : ℕ → ℕ) (top base : ℕ) (IsCell IsBody IsAll : ℕ → Type 0) → StandsAmid site at top base IsCell IsBody IsAll
    → (s : Site) (level w : ℕ) → IsWordOf at top base IsCell (key_of s level) w → IsBelowTop base s level
below_top site at top base IsCell IsBody IsAll h s zero w (Top k v) = record { top_level = 0; above = omega arith; is_base = sym k }
below_top site at top base IsCell IsBody IsAll h s zero w (Child c k p l e v) =
    let f = sharer (h.shared c p) in
    absurd (omega (arith, key-zero s, f.one_under, key-positive (site f.one) f.level))
below_top site at top base IsCell IsBody IsAll h s (suc level) w (Top k v) = record { top_level = suc level; above = omega arith; is_base = sym k }
below_top site at top base IsCell IsBody IsAll h s (suc level) w (Child c k p l e v) =
    let same : at (key_place c) ≡ key_of s level = same_parent _ _ k (octant_of s level) l (octant-small s level) (sym e ∙ key-suc s level) in
    let up : IsWordOf at top base IsCell (key_of s level) (cell_word c) =
    subst (λ (x : ℕ). IsWordOf at top base IsCell x (cell_word c)) same (h.cell_named c p) in
    let b = below_top site at top base IsCell IsBody IsAll h s level (cell_word c) up in
    record { top_level = b.top_level; above = omega (arith, b.above); is_base = b.is_base }

-- above a point's word, at each level from the top word's on, stands the word of a cell
pub record HasCellOfKey (at : ℕ → ℕ) (top base : ℕ) (IsCell : ℕ → Type 0) (key : ℕ) : Type 0 where
  pub cell : ℕ
  pub is_cell : IsCell cell
  pub named : IsWordOf at top base IsCell key (cell_word cell)

-- at each level from the top word's to that of a word of a point, the point's word names a cell
pub cell_above : (site : ℕ → Site) (at : ℕ → ℕ) (top base : ℕ) (IsCell IsBody IsAll : ℕ → Type 0) → StandsAmid site at top base IsCell IsBody IsAll
    → (s : Site) (level w upper top_level : ℕ) → IsWordOf at top base IsCell (key_of s level) w → base ≡ key_of s top_level → top_level ≤ upper → upper < level
    → HasCellOfKey at top base IsCell (key_of s upper)
cell_above site at top base IsCell IsBody IsAll h s zero w upper tl x b p q = absurd (omega arith)
cell_above site at top base IsCell IsBody IsAll h s (suc level) w upper tl (Top k v) b p q =
    let same : suc level ≡ tl = same_level s s (suc level) tl (k ∙ b) in absurd (omega arith)
cell_above site at top base IsCell IsBody IsAll h s (suc level) w upper tl (Child c k pc l e v) b p q =
    let same : at (key_place c) ≡ key_of s level = same_parent _ _ k (octant_of s level) l (octant-small s level) (sym e ∙ key-suc s level) in
    let up : IsWordOf at top base IsCell (key_of s level) (cell_word c) =
    subst (λ (x : ℕ). IsWordOf at top base IsCell x (cell_word c)) same (h.cell_named c pc) in
    elim (cases_lt upper level) [
      | inl r ↦ cell_above site at top base IsCell IsBody IsAll h s level (cell_word c) upper tl up b p r
      | inr r ↦
          let here : level ≡ upper = omega arith in
          record { cell = c; is_cell = pc; named = subst (λ (x : ℕ). IsWordOf at top base IsCell (key_of s x) (cell_word c)) here up }
    ]

-- no word below a cell is that of the top word's cube
pub child_below_top : (site : ℕ → Site) (at : ℕ → ℕ) (top base : ℕ) (IsCell IsBody IsAll : ℕ → Type 0) → StandsAmid site at top base IsCell IsBody IsAll
    → (c k : ℕ) → IsCell c → 8 * at (key_place c) + k ≡ base → ⊥
child_below_top site at top base IsCell IsBody IsAll h c k p e =
    let f = sharer (h.shared c p) in
    let s : Site = site f.one in
    let up : IsWordOf at top base IsCell (key_of s f.level) (cell_word c) =
    subst (λ (x : ℕ). IsWordOf at top base IsCell x (cell_word c)) f.one_under (h.cell_named c p) in
    let b = below_top site at top base IsCell IsBody IsAll h s f.level (cell_word c) up in
    elim (cases_lt b.top_level f.level) [
      | inl r ↦ omega (arith, key-deeper s s b.top_level f.level r, f.one_under, b.is_base, e, key-positive s f.level)
      | inr r ↦
          let same : b.top_level ≡ f.level = omega (arith, b.above) in
          omega (arith, f.one_under, b.is_base ∙ ap (key_of s) same, e, key-positive s f.level)
    ]

-- a key has one word
pub one_word : (site : ℕ → Site) (at : ℕ → ℕ) (top base : ℕ) (IsCell IsBody IsAll : ℕ → Type 0) → StandsAmid site at top base IsCell IsBody IsAll
    → (key v w : ℕ) → IsWordOf at top base IsCell key v → IsWordOf at top base IsCell key w → v ≡ w
one_word site at top base IsCell IsBody IsAll h key v w (Top k e) (Top k' e') = e ∙ sym e'
one_word site at top base IsCell IsBody IsAll h key v w (Top k e) (Child c j p l k' e') =
    absurd (child_below_top site at top base IsCell IsBody IsAll h c j p (sym k' ∙ k))
one_word site at top base IsCell IsBody IsAll h key v w (Child c j p l k' e') (Top k e) =
    absurd (child_below_top site at top base IsCell IsBody IsAll h c j p (sym k' ∙ k))
one_word site at top base IsCell IsBody IsAll h key v w (Child c j p l k e) (Child d i q m k' e') =
    let both : 8 * at (key_place c) + j ≡ 8 * at (key_place d) + i = sym k ∙ k' in
    let same : c ≡ d = h.keys_differ c d p q (same_parent _ _ j i l m both) in
    let nth : j ≡ i = same_child (at (key_place c)) (at (key_place d)) j i l m both in
    e ∙ (ap (λ x. at (child_place x j)) same ∙ ap (λ x. at (child_place d x)) nth) ∙ sym e'

-- where a body's point lies under the key of a word, the word names that body or a cell
pub word_over : (site : ℕ → Site) (at : ℕ → ℕ) (top base : ℕ) (IsCell IsBody IsAll : ℕ → Type 0) → StandsAmid site at top base IsCell IsBody IsAll
    → (n level w : ℕ) → IsBody n → IsWordOf at top base IsCell (key_of (site n) level) w
    → (w ≡ body_word n) ⊎ ((c : ℕ) × IsCell c × (w ≡ cell_word c))
word_over site at top base IsCell IsBody IsAll h n level w b x =
    let f = h.body_named n b in
    let s : Site = site n in
    elim (cases_lt level f.level) [
      | inl r ↦
          let t = below_top site at top base IsCell IsBody IsAll h s level w x in
          let up = cell_above site at top base IsCell IsBody IsAll h s f.level (body_word n) level t.top_level f.named t.is_base t.above r in
          inr (up.cell, up.is_cell, one_word site at top base IsCell IsBody IsAll h (key_of s level) w (cell_word up.cell) x up.named)
      | inr g ↦ elim (cases_lt f.level level) [
        | inl r ↦
            let t = below_top site at top base IsCell IsBody IsAll h s f.level (body_word n) f.named in
            let up = cell_above site at top base IsCell IsBody IsAll h s level w f.level t.top_level x t.is_base t.above r in
            let odd : body_word n ≡ cell_word up.cell =
            one_word site at top base IsCell IsBody IsAll h (key_of s f.level) (body_word n) (cell_word up.cell) f.named up.named in
            absurd (omega arith)
        | inr r ↦
            let same : f.level ≡ level = omega arith in
            let there : IsWordOf at top base IsCell (key_of s level) (body_word n) =
            subst (λ (y : ℕ). IsWordOf at top base IsCell (key_of s y) (body_word n)) same f.named in
            inl (one_word site at top base IsCell IsBody IsAll h (key_of s level) w (body_word n) x there)
      ]
    ]
