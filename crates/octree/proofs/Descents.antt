-- A step of the way down.
use Rattle.std.proofs.Common.{ℕ, ◌+◌, ◌*◌, ◌<◌, ◌≤◌, ◌≡◌, refl, sym, ◌∙◌, ap, subst, arith, List, length, add-one, slice_index_or}
use Rattle.std.proofs.lemmas.List.{get_or_read}
use Rattle.octant_code.specs.Space.{Site, octant_of, key_of}
use Rattle.octant_code.specs.Points.{site_at}
use Rattle.octant_code.proofs.Keys.{key-suc, octant-small, same_level}
use Rattle.octree.specs.Stored.{StandsWell}
use Rattle.tree_rule.proofs.Laws.{sharer, word_at_place}
use Rattle.tree_rule.specs.Flat.{ChildPlace, IsPlaceOf, IsWordOf, TopPlace}
use Rattle.tree_rule.specs.Words.{Below, HasCell, Here, IsReached, at_of, cell_word, key_place}

-- what a word that names a cell tells on the way down
pub record StepsDown (words : List ℕ) (base : ℕ) (s : Site) (place level c : ℕ) : Type 0 where
  pub has_cell : HasCell words c
  pub shallow : level ≤ 20
  pub there : IsPlaceOf (at_of words) 0 base (HasCell words) (key_of s (level + 1)) (3 + 10 * c + octant_of s level)

-- a word at a place is read
pub place_read : (words : List ℕ) (base key place : ℕ) → IsPlaceOf (at_of words) 0 base (HasCell words) key place
    → IsReached (at_of words) (at_of words 0) (at_of words place)
place_read words base key place (TopPlace k e) = Here (at_of words place) (ap (at_of words) e)
place_read words base key place (ChildPlace c j p l k e) = Below c j (at_of words place) p l (ap (at_of words) e)

-- where the way down has come to
pub record IsOnTheWay (sites : List Site) (words : List ℕ) (n from place level : ℕ) : Type 0 where
  pub there : IsPlaceOf (at_of words) 0 (key_of (site_at sites n) from) (HasCell words) (key_of (site_at sites n) level) place
  pub shallow : level ≤ 21
  pub below : from ≤ level
  pub inside : place < length words

-- a word that names a cell leads to the place of the child that holds the point
pub stepped : (sites : List Site) (words : List ℕ) (n from place level w c : ℕ) → StandsWell sites words (key_of (site_at sites n) from)
    → IsOnTheWay sites words n from place level → w ≡ slice_index_or words place w → w ≡ cell_word c
    → StepsDown words (key_of (site_at sites n) from) (site_at sites n) place level c
stepped sites words n from place level w c h way read shape =
    let s : Site = site_at sites n in
    let base : ℕ = key_of s from in
    let is_cell : at_of words place ≡ cell_word c = ◌∙◌ {a = at_of words place} (sym (get_or_read words place w way.inside read 0)) shape in
    let x : IsWordOf (at_of words) (at_of words 0) base (HasCell words) (key_of s level) (cell_word c) =
    subst (λ (y : ℕ). IsWordOf (at_of words) (at_of words 0) base (HasCell words) (key_of s level) y) is_cell
    (word_at_place (at_of words) 0 base (HasCell words) (key_of s level) place way.there) in
    let f = h.names_cell (key_of s level) c x in
    let t = sharer (h.shared c f.0) in
    let l : t.level ≡ level = same_level (site_at sites t.one) s t.level level (sym t.one_under ∙ f.1) in
    let next_key : key_of s (level + 1) ≡ 8 * at_of words (key_place c) + octant_of s level =
    ap (key_of s) (add-one level) ∙ key-suc s level ∙ ap (λ y. 8 * y + octant_of s level) (sym f.1) in
    record { has_cell = f.0; shallow = omega (arith, t.shallow); there = ChildPlace c (octant_of s level) f.0 (octant-small s level) next_key refl }
