-- A body is named once: the words that name it are of one key, and a key has one place.
use Rattle.std.proofs.Common.{ℕ, ◌+◌, ◌*◌, ◌<◌, ◌≡◌, sym, ◌∙◌, ap, subst, inl, inr, arith}
use Rattle.std.proofs.lemmas.Bool.{cases_lt}
use Rattle.octant_code.specs.Space.{Site, key_of, IsUnder}
use Rattle.octant_code.proofs.Keys.{same_parent, same_child}
use Rattle.tree_rule.specs.Words.{body_word, cell_word, key_place}
use Rattle.tree_rule.specs.Flat.{ChildPlace, IsPlaceOf, IsWordOf, StandsAmid, TopPlace}
use Rattle.tree_rule.proofs.Flat.{below_top, cell_above, child_below_top, one_word}

-- a key has one place
pub one_place : (site : ℕ → Site) (at : ℕ → ℕ) (first base : ℕ) (IsCell IsBody IsAll : ℕ → Type 0) → StandsAmid site at (at first) base IsCell IsBody IsAll
    → (key p q : ℕ) → IsPlaceOf at first base IsCell key p → IsPlaceOf at first base IsCell key q → p ≡ q
one_place site at first base IsCell IsBody IsAll h key p q (TopPlace k e) (TopPlace k' e') = e ∙ sym e'
one_place site at first base IsCell IsBody IsAll h key p q (TopPlace k e) (ChildPlace d i m b l f) =
    absurd (child_below_top site at (at first) base IsCell IsBody IsAll h d i m (sym l ∙ k))
one_place site at first base IsCell IsBody IsAll h key p q (ChildPlace c j o a k e) (TopPlace l f) =
    absurd (child_below_top site at (at first) base IsCell IsBody IsAll h c j o (sym k ∙ l))
one_place site at first base IsCell IsBody IsAll h key p q (ChildPlace c j o a k e) (ChildPlace d i m b l f) =
    let both : 8 * at (key_place c) + j ≡ 8 * at (key_place d) + i = sym k ∙ l in
    let same : c ≡ d = h.keys_differ c d o m (same_parent _ _ j i a b both) in
    let nth : j ≡ i = same_child (at (key_place c)) (at (key_place d)) j i a b both in
    omega (arith, e, f, same, nth)

-- the words of a body are of one level: above a word of a deeper one stands the word of a cell
no_body_above : (site : ℕ → Site) (at : ℕ → ℕ) (top base : ℕ) (IsCell IsBody IsAll : ℕ → Type 0) → StandsAmid site at top base IsCell IsBody IsAll
    → (n level deeper : ℕ) → IsWordOf at top base IsCell (key_of (site n) level) (body_word n)
    → IsWordOf at top base IsCell (key_of (site n) deeper) (body_word n) → level < deeper → ⊥
no_body_above site at top base IsCell IsBody IsAll h n level deeper x y l =
    let s : Site = site n in
    let t = below_top site at top base IsCell IsBody IsAll h s level (body_word n) x in
    let up = cell_above site at top base IsCell IsBody IsAll h s deeper (body_word n) level t.top_level y t.is_base t.above l in
    let odd : body_word n ≡ cell_word up.cell = one_word site at top base IsCell IsBody IsAll h (key_of s level) (body_word n) (cell_word up.cell) x up.named in
    omega arith

-- a body has words of one key
pub one_key_of_body : (site : ℕ → Site) (at : ℕ → ℕ) (top base : ℕ) (IsCell IsBody IsAll : ℕ → Type 0) → StandsAmid site at top base IsCell IsBody IsAll
    → (n key other : ℕ) → IsWordOf at top base IsCell key (body_word n) → IsWordOf at top base IsCell other (body_word n) → key ≡ other
one_key_of_body site at top base IsCell IsBody IsAll h n key other x y =
    let u : IsUnder key (site n) = (h.names_body key n x).1 in
    let v : IsUnder other (site n) = (h.names_body other n y).1 in
    let x' : IsWordOf at top base IsCell (key_of (site n) u.0) (body_word n) = subst (λ (z : ℕ). IsWordOf at top base IsCell z (body_word n)) u.2 x in
    let y' : IsWordOf at top base IsCell (key_of (site n) v.0) (body_word n) = subst (λ (z : ℕ). IsWordOf at top base IsCell z (body_word n)) v.2 y in
    elim (cases_lt u.0 v.0) [
      | inl r ↦ absurd (no_body_above site at top base IsCell IsBody IsAll h n u.0 v.0 x' y' r)
      | inr g ↦ elim (cases_lt v.0 u.0) [
        | inl r ↦ absurd (no_body_above site at top base IsCell IsBody IsAll h n v.0 u.0 y' x' r)
        | inr r ↦ let same : u.0 ≡ v.0 = omega arith in u.2 ∙ ap (key_of (site n)) same ∙ sym v.2
      ]
    ]
