-- Contracted words as an octree that is canonical at other points, where each body's other point lies in the cube of its word too.
use Rattle.std.proofs.Common.{ℕ, ◌+◌, ◌*◌, ◌<◌, ◌≡◌, refl, sym, ◌∙◌, ap, subst, inl, inr, arith, List, length}
use Rattle.std.proofs.lemmas.Bool.{cases_lt}
use Rattle.octant_code.proofs.Keys.{key-zero, same_level}
use Rattle.octant_code.specs.Points.{ArePoints, site_at}
use Rattle.octant_code.specs.Space.{IsUnder, Site, key_of}
use Rattle.bh_model.proofs.Cells.{same_above}
use Rattle.tree_rule.proofs.Laws.{cell_above, forget, one_word, recall, sound_of_stands}
use Rattle.tree_rule.specs.Flat.{Child, IsWordOf, StandsAmid, Top}
use Rattle.tree_rule.specs.Sound.{BelowAs, BodiesUnder, HereAs, IsReachedAs}
use Rattle.tree_rule.specs.Words.{HasBody, HasCell, at_of, body_word, cell_word}
use Rattle.octree.specs.Stored.{AreOctreeWords, IsCanonical, full_tree}
use Rattle.update_build.specs.Contracting.{AreContracted, IsWhatStays, key_in_words}
use Rattle.update_build.proofs.Contracting.{key_stays}

-- a word that is read with a key is the word of that key
pub word_of_reading : (site : ℕ → Site) (at : ℕ → ℕ) (top base : ℕ) (P B V : ℕ → Type 0) → StandsAmid site at top base P B V → (key w : ℕ)
    → IsReachedAs at top base key w → IsWordOf at top base P key w
word_of_reading site at top base P B V h _ _ (HereAs key w k e) = Top k e
word_of_reading site at top base P B V h _ _ (BelowAs c k parent key w r l e f) =
    let g = h.names_cell parent c (word_of_reading site at top base P B V h parent (cell_word c) r) in
    Child c k g.0 l (e ∙ ap (λ y. 8 * y + k) (sym g.1)) f

module _ (sites news : List Site) (before after : List ℕ) (con : AreContracted sites before after)
    (earlier : StandsAmid (site_at sites) (at_of before) (at_of before 0) 1 (HasCell before) (HasBody before) (λ n. n < length sites)) where
  -- a body's word is no deeper than it was
  not_deeper : (n old new : ℕ) → IsWordOf (at_of before) (at_of before 0) 1 (HasCell before) (key_of (site_at sites n) old) (body_word n)
      → IsWordOf (at_of after) (at_of after 0) 1 (HasCell after) (key_of (site_at sites n) new) (body_word n) → old < new → ⊥
  not_deeper n old new x y less =
      let s : Site = site_at sites n in
      let up = cell_above (site_at sites) (at_of after) (at_of after 0) 1 (HasCell after) (HasBody after) _ con.stands s new (body_word n) old 0 y
      (sym (key-zero s)) (omega arith) less in
      let key : key_in_words before up.cell ≡ key_of s old = sym (key_stays before after con.fewer up.cell)
      ∙ (con.stands.names_cell (key_of s old) up.cell up.named).1 in
      let there : IsWordOf (at_of before) (at_of before 0) 1 (HasCell before) (key_of s old) (cell_word up.cell) =
      subst (λ (y : ℕ). IsWordOf (at_of before) (at_of before 0) 1 (HasCell before) y (cell_word up.cell)) key
      (earlier.cell_named up.cell (con.fewer.cells up.cell up.is_cell)) in
      let odd : body_word n ≡ cell_word up.cell =
      one_word (site_at sites) (at_of before) (at_of before 0) 1 (HasCell before) (HasBody before) _ earlier (key_of s old) (body_word n)
      (cell_word up.cell) x there in
      omega arith

  -- each body's other point lies in the cube of its word
  pub still_under : BodiesUnder (site_at news) (at_of before) (at_of before 0) 1 → BodiesUnder (site_at news) (at_of after) (at_of after 0) 1
  still_under under key n read =
      let s : Site = site_at sites n in
      let t : Site = site_at news n in
      let y = word_of_reading (site_at sites) (at_of after) (at_of after 0) 1 (HasCell after) (HasBody after) _ con.stands key (body_word n) read in
      let u : IsUnder key s = (con.stands.names_body key n y).1 in
      let has : HasBody before n = (con.fewer.bodies n).0 (forget (at_of after) (at_of after 0) 1 key (body_word n) read) in
      let f = recall (at_of before) (at_of before 0) 1 (body_word n) has in
      let x = word_of_reading (site_at sites) (at_of before) (at_of before 0) 1 (HasCell before) (HasBody before) _ earlier f.key (body_word n) f.read in
      let v : IsUnder f.key s = (earlier.names_body f.key n x).1 in
      let w : IsUnder f.key t = under f.key n f.read in
      let same : w.0 ≡ v.0 = same_level t s w.0 v.0 (sym w.2 ∙ v.2) in
      let both : key_of s v.0 ≡ key_of t v.0 = sym v.2 ∙ w.2 ∙ ap (key_of t) same in
      elim (cases_lt v.0 u.0) [
        | inl deeper ↦ absurd (not_deeper n v.0 u.0
            (subst (λ (z : ℕ). IsWordOf (at_of before) (at_of before 0) 1 (HasCell before) z (body_word n)) v.2 x)
            (subst (λ (z : ℕ). IsWordOf (at_of after) (at_of after 0) 1 (HasCell after) z (body_word n)) u.2 y) deeper)
        | inr above ↦ (u.0, u.1, u.2 ∙ same_above s t v.0 u.0 (omega arith) both)
      ]

-- the words are those of an octree
pub octree_of_contracted : (sites : List Site) (before after : List ℕ) → ArePoints sites → AreContracted sites before after → AreOctreeWords after
octree_of_contracted sites before after points con = record {
  cells = con.thinned.cells;
  few = con.thinned.few;
  long = con.thinned.long;
  unlocked = con.thinned.unlocked;
  sound = sound_of_stands (site_at sites) (at_of after) (at_of after 0) 1 (HasCell after) (HasBody after) con.stands;
  cells_held = con.thinned.cells_held;
  bodies_small = λ n b. omega (arith, con.thinned.bodies_in n b, points.few);
}

-- and it is canonical at the other points
pub canonical_after : (sites news : List Site) (before after : List ℕ) → AreContracted sites before after
    → StandsAmid (site_at sites) (at_of before) (at_of before 0) 1 (HasCell before) (HasBody before) (λ n. n < length sites)
    → BodiesUnder (site_at news) (at_of before) (at_of before 0) 1 → length news ≡ length sites → IsCanonical news (full_tree after)
canonical_after sites news before after con earlier under many = record {
  under = still_under sites news before after con earlier under;
  bodies_in = λ n b. omega (arith, con.thinned.bodies_in n b, many);
}

pub stays_as : (sites news : List Site) (before after : List ℕ) → AreContracted sites before after
    → StandsAmid (site_at sites) (at_of before) (at_of before 0) 1 (HasCell before) (HasBody before) (λ n. n < length sites)
    → BodiesUnder (site_at news) (at_of before) (at_of before 0) 1 → length news ≡ length sites → IsWhatStays news before (full_tree after)
stays_as sites news before after con earlier under many = record {
  base = refl;
  full = refl;
  canonical = canonical_after sites news before after con earlier under many;
  bodies = con.fewer.bodies;
  cells = con.fewer.cells;
  keys = λ c. key_stays before after con.fewer c;
}
