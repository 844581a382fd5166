-- The cells that words stand with are those that are read, and the words name these and the bodies of their tree exactly.
use Rattle.std.proofs.Common.{ℕ, zero, suc, ◌+◌, ◌*◌, ◌<◌, ◌≤◌, ◌≡◌, ◌↔◌, List, refl, sym, ap, ◌∙◌, subst, inl, inr, arith}
use Rattle.std.proofs.lemmas.Bool.{cases_lt}
use Rattle.octant_code.specs.Space.{Site, octant_of, key_of}
use Rattle.octant_code.proofs.Keys.{key-suc, octant-small}
use Rattle.bh_model.specs.Bodies.{IsIn, NoneTwice}
use Rattle.bh_model.specs.Trees.{order}
use Rattle.bh_model.proofs.Lists.{joined_in, none_twice-append}
use Rattle.tree_rule.specs.Words.{cell_word, cells_from, child_place, tree_from}
use Rattle.tree_rule.specs.Flat.{Child, IsWordOf, StandsFor, Top}
use Rattle.tree_rule.specs.Sound.{HereAs}
use Rattle.tree_rule.specs.Standing.{NamesExactly}
use Rattle.tree_rule.proofs.Canonical.{word_is}
use Rattle.tree_rule.proofs.Count.{cells-cell, cells_once, cells_read}
use Rattle.tree_rule.proofs.Exact.{exact_of_stands}
use Rattle.tree_rule.proofs.Flat.{below_top, cell_above, one_word}
use Rattle.tree_rule.proofs.Shared.{sharer}
use Rattle.tree_rule.proofs.Sound.{forget, sound_of_stands}
use Rattle.tree_rule.proofs.Walk.{cell_reached, order_members, stands_same}

-- each cell of the set is among those that are read below a word above it
cells_below : (site : ℕ → Site) (at : ℕ → ℕ) (top base : ℕ) (P B : ℕ → Type 0) → StandsFor site at top base P B
    → (s : Site) (deep c : ℕ) → IsWordOf at top base P (key_of s deep) (cell_word c)
    → (f level w : ℕ) → level ≤ deep → deep < level + f → IsWordOf at top base P (key_of s level) w → IsIn (cells_from at f w) c
cells_below site at top base P B h s deep c named zero level w a b x = absurd (omega arith)
cells_below site at top base P B h s deep c named (suc f) level w a b x =
    elim (cases_lt level deep) [
      | inl l ↦
          let t = below_top site at top base P B B h s level w x in
          let up = cell_above site at top base P B B h s deep (cell_word c) level t.top_level named t.is_base t.above l in
          let is : w ≡ cell_word up.cell = one_word site at top base P B B h (key_of s level) w (cell_word up.cell) x up.named in
          let g = h.names_cell (key_of s level) up.cell up.named in
          let child : IsWordOf at top base P (key_of s (suc level)) (at (child_place up.cell (octant_of s level))) =
          Child up.cell (octant_of s level) up.is_cell (octant-small s level) (key-suc s level ∙ ap (λ y. 8 * y + octant_of s level) (sym g.1)) refl in
          let r = cells_below site at top base P B h s deep c named f (suc level) (at (child_place up.cell (octant_of s level))) (omega arith)
          (omega arith) child in
          subst (λ (z : List ℕ). IsIn z c) (sym (cells-cell at f w up.cell is))
          (inr (joined_in (λ k. cells_from at f (at (child_place up.cell k))) 8 (octant_of s level) c (octant-small s level) r))
      | inr g ↦
          let same : level ≡ deep = omega arith in
          let here : IsWordOf at top base P (key_of s level) (cell_word c) =
          subst (λ (z : ℕ). IsWordOf at top base P (key_of s z) (cell_word c)) (sym same) named in
          let is : w ≡ cell_word c = one_word site at top base P B B h (key_of s level) w (cell_word c) x here in
          subst (λ (z : List ℕ). IsIn z c) (sym (cells-cell at f w c is)) (inl refl)
    ]

-- the cells of the set are those of the list that is read from the top word
pub cells_complete : (site : ℕ → Site) (at : ℕ → ℕ) (top base : ℕ) (P B : ℕ → Type 0) → 1 ≤ base → StandsFor site at top base P B → (c : ℕ)
    → P c ↔ IsIn (cells_from at 22 top) c
cells_complete site at top base P B low h c = (
  λ p.
      let f = sharer (h.shared c p) in
      let named : IsWordOf at top base P (key_of (site f.one) f.level) (cell_word c) =
      subst (λ (z : ℕ). IsWordOf at top base P z (cell_word c)) f.one_under (h.cell_named c p) in
      let t = below_top site at top base P B B h (site f.one) f.level (cell_word c) named in
      cells_below site at top base P B h (site f.one) f.level c named 22 t.top_level top t.above (omega (arith, f.shallow)) (Top (sym t.is_base) refl),
  λ i.
      let r = cells_read at top base 22 base top c (HereAs base top refl refl) (word_is top) i in
      (cell_reached site at top base P B h c).1 (forget at top base r.key (cell_word c) r.read),
)

-- words that stand for a set name exactly the cells that are read and the bodies of their tree, beside others that are no cells of theirs
pub exact_of_stands_for : (site : ℕ → Site) (at : ℕ → ℕ) (root base : ℕ) (P B : ℕ → Type 0) (others : List ℕ) → 1 ≤ base → StandsFor site at (at root) base P B
    → NoneTwice others → ((c : ℕ) → P c → IsIn others c → ⊥)
    → NamesExactly site at root base (cells_from at 22 (at root)) others (order (tree_from at 22 (at root)))
exact_of_stands_for site at root base P B others low h once apart =
    let top : ℕ = at root in
    let cells = cells_complete site at (at root) base P B low h in
    exact_of_stands site at root base (cells_from at 22 (at root)) others (order (tree_from at 22 (at root)))
    (stands_same site at (at root) base P (IsIn (cells_from at 22 (at root))) B (IsIn (order (tree_from at 22 (at root)))) cells
    (order_members site at (at root) base P B h) h)
    (none_twice-append (cells_from at 22 (at root)) others
    (cells_once at (at root) base low (sound_of_stands site at (at root) base P B h) 22 base (at root) (HereAs base (at root) refl refl)
    (word_is (at root))) once
    (λ c i j. apart c ((cells c).1 i) j))
