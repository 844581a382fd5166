-- The way down to the word that names a body, and the tree's leaf of the body.
use Rattle.std.proofs.Common.{ℕ, zero, suc, ◌+◌, ◌*◌, ◌^◌, ◌<◌, ◌≤◌, ◌≡◌, ◌≢◌, ◌↔◌, refl, sym, ◌∙◌, ap, subst, inl, inr, arith, add-one, true, false}
use Rattle.std.proofs.Common.{List, length}
use Rattle.std.proofs.lemmas.Bool.{cases_Bool}
use Rattle.octant_code.proofs.Keys.{key-suc, key-zero, octant-small, same_level}
use Rattle.octant_code.specs.Points.{ArePoints, site_at}
use Rattle.octant_code.specs.Space.{IsUnder, Site, key_of, octant_of}
use Rattle.bh_model.specs.Bodies.{IsIn, numbers}
use Rattle.bh_model.specs.Movers.{is_under, leaf_keys_from}
use Rattle.bh_model.specs.Trees.{Tree, octree}
use Rattle.bh_model.proofs.Lists.{in_joined, joined_in}
use Rattle.bh_model.proofs.Movers.{any_member, is_under_so, leaf-body, leaf-cell, leaf-empty, member_any}
use Rattle.tree_rule.proofs.Laws.{ACell, NoBody, OneBody, WordIs, cell_above, one_key_of_body, one_word, place_of_word, sharer, tree-body}
use Rattle.tree_rule.proofs.Laws.{tree-cell, tree-empty}
use Rattle.tree_rule.proofs.Laws.{word_at_place, word_is, word_over}
use Rattle.tree_rule.specs.Flat.{Child, ChildPlace, IsPlaceOf, IsWordOf, Top, TopPlace}
use Rattle.tree_rule.specs.Words.{HasBody, HasCell, at_of, body_word, cell_word, child_place, key_place, tree_from}
use Rattle.update_build.specs.Moving.{AreWordsOf, IsLeafAt, keeps}

-- where the way down to a body has come to
pub record IsOnWay (sites : List Site) (words : List ℕ) (n place level : ℕ) : Type 0 where
  pub there : IsPlaceOf (at_of words) 0 1 (HasCell words) (key_of (site_at sites n) level) place
  pub shallow : level ≤ 21
  pub inside : place < length words

module _ (sites : List Site) (words : List ℕ) (h : AreWordsOf sites words) where
  abbrev WordOf : ℕ → ℕ → Type 0
  WordOf key w = IsWordOf (at_of words) (at_of words 0) 1 (HasCell words) key w

  pub way_first : (n : ℕ) → IsOnWay sites words n 0 0
  way_first n = record { there = TopPlace (key-zero (site_at sites n)) refl; shallow = omega arith; inside = omega (arith, h.rule.long) }

  -- what a word of the tree is
  pub way_small : ArePoints sites → (key place : ℕ) → IsPlaceOf (at_of words) 0 1 (HasCell words) key place → at_of words place < 2 ^ 33
  way_small points key place there =
      let word : WordOf key (at_of words place) = word_at_place (at_of words) 0 1 (HasCell words) key place there in
      elim (word_is (at_of words place)) [
        | NoBody e ↦ omega arith
        | OneBody x e ↦
            let f = h.stands.names_body key x (subst (WordOf key) e word) in
            omega (arith, e, (h.bodies x).0 f.0, points.few)
        | ACell c e ↦
            let f = h.stands.names_cell key c (subst (WordOf key) e word) in
            omega (arith, e, h.rule.cells_held c f.0, h.rule.few)
      ]

  module _ (n place level : ℕ) (way : IsOnWay sites words n place level) where
    word : WordOf (key_of (site_at sites n) level) (at_of words place)
    word = word_at_place (at_of words) 0 1 (HasCell words) (key_of (site_at sites n) level) place way.there

    -- a cell on the way
    way_cell : (c : ℕ) → at_of words place ≡ cell_word c → HasCell words c × (at_of words (key_place c) ≡ key_of (site_at sites n) level)
    way_cell c e = h.stands.names_cell (key_of (site_at sites n) level) c (subst (WordOf (key_of (site_at sites n) level)) e word)

    pub way_shallow : (c : ℕ) → at_of words place ≡ cell_word c → level < 21
    way_shallow c e =
        let f = way_cell c e in
        let t = sharer (h.stands.shared c f.0) in
        let same : t.level ≡ level = same_level (site_at sites t.one) (site_at sites n) t.level level (sym t.one_under ∙ f.1) in
        omega (arith, same, t.shallow)

    pub way_down : (c k below : ℕ) → at_of words place ≡ cell_word c → k ≡ octant_of (site_at sites n) level → below ≡ child_place c k
        → IsOnWay sites words n below (level + 1)
    way_down c k below e octant place_is =
        let f = way_cell c e in
        let s : Site = site_at sites n in
        let small : k < 8 = omega (arith, octant, octant-small s level) in
        record {
          there = ChildPlace c k f.0 small
              (ap (key_of s) (add-one level) ∙ key-suc s level ∙ ap (λ y. 8 * key_of s level + y) (sym octant) ∙ ap (λ y. 8 * y + k) (sym f.1)) place_is;
          shallow = omega (arith, way_shallow c e);
          inside = omega (arith, place_is, small, h.rule.cells_held c f.0, h.rule.long);
        }

    -- the end of the way
    pub way_end : HasBody words n → ((c : ℕ) → at_of words place ≡ cell_word c → ⊥) → IsLeafAt words (key_of (site_at sites n) level) n place
    way_end has off = (
      way.there,
      elim (word_over (site_at sites) (at_of words) (at_of words 0) 1 (HasCell words) (HasBody words) (HasBody words) h.stands n level
          (at_of words place) has word) [ inl e ↦ e | inr f ↦ absurd (off f.0 f.2) ],
    )

  -- ---- the leaves of the tree are the words of bodies

  -- a leaf of the tree below a word is the word of the body
  leaf_named : (n q below key w : ℕ) → WordOf key w → WordIs w → IsIn (leaf_keys_from n (tree_from (at_of words) below w) key) q → WordOf q (body_word n)
  unfolding tree_from
  leaf_named n q zero key w x is i = absurd (subst (λ (y : List ℕ). IsIn y q) (leaf-empty n key) i)
  leaf_named n q (suc below) key w x (NoBody e) i =
      absurd (subst (λ (y : List ℕ). IsIn y q) (ap (λ v. leaf_keys_from n (tree_from (at_of words) (suc below) v) key) e
      ∙ ap (λ t. leaf_keys_from n t key) (tree-empty (at_of words) below) ∙ leaf-empty n key) i)
  leaf_named n q (suc below) key w x (OneBody m e) i =
      let f = (leaf-body n m key q).0 (subst (λ (t : Tree). IsIn (leaf_keys_from n t key) q)
      (ap (tree_from (at_of words) (suc below)) e ∙ tree-body (at_of words) below m) i) in
      subst (λ (u : ℕ × ℕ). WordOf u.0 (body_word u.1)) (λ j. (sym f.1 j, f.0 j)) (subst (WordOf key) e x)
  leaf_named n q (suc below) key w x (ACell c e) i =
      let kid : ℕ → Tree = λ k. tree_from (at_of words) below (at_of words (child_place c k)) in
      let g = h.stands.names_cell key c (subst (WordOf key) e x) in
      let p = in_joined (λ k. leaf_keys_from n (kid k) (8 * key + k)) 8 q (subst (λ (y : List ℕ). IsIn y q)
      (ap (λ v. leaf_keys_from n (tree_from (at_of words) (suc below) v) key) e
      ∙ ap (λ t. leaf_keys_from n t key) (tree-cell (at_of words) below c) ∙ leaf-cell n kid key) i) in
      leaf_named n q below (8 * key + p.part) (at_of words (child_place c p.part))
      (Child c p.part g.0 p.small (ap (λ y. 8 * y + p.part) (sym g.1)) refl) (word_is (at_of words (child_place c p.part))) p.inside

  -- the word of a body is a leaf of the tree below each word above it
  leaf_there : (n more below level deep w : ℕ) → deep ≡ more + level → more < below → WordOf (key_of (site_at sites n) level) w
      → WordOf (key_of (site_at sites n) deep) (body_word n)
      → IsIn (leaf_keys_from n (tree_from (at_of words) below w) (key_of (site_at sites n) level)) (key_of (site_at sites n) deep)
  leaf_there n more zero level deep w sum less x y = absurd (omega arith)
  leaf_there n zero (suc below) level deep w sum less x y =
      let s : Site = site_at sites n in
      let here : deep ≡ level = omega arith in
      let e : w ≡ body_word n = one_word (site_at sites) (at_of words) (at_of words 0) 1 (HasCell words) (HasBody words) (HasBody words) h.stands
      (key_of s level) w (body_word n) x (subst (λ (z : ℕ). WordOf (key_of s z) (body_word n)) here y) in
      subst (λ (t : Tree). IsIn (leaf_keys_from n t (key_of s level)) (key_of s deep))
      (sym (ap (tree_from (at_of words) (suc below)) e ∙ tree-body (at_of words) below n))
      ((leaf-body n n (key_of s level) (key_of s deep)).1 (refl, ap (key_of s) here))
  leaf_there n (suc more) (suc below) level deep w sum less x y =
      let s : Site = site_at sites n in
      let up = cell_above (site_at sites) (at_of words) (at_of words 0) 1 (HasCell words) (HasBody words) (HasBody words) h.stands s deep
      (body_word n) level 0 y (sym (key-zero s)) (omega arith) (omega arith) in
      let c : ℕ = up.cell in
      let e : w ≡ cell_word c = one_word (site_at sites) (at_of words) (at_of words 0) 1 (HasCell words) (HasBody words) (HasBody words) h.stands
      (key_of s level) w (cell_word c) x up.named in
      let key : at_of words (key_place c) ≡ key_of s level = (h.stands.names_cell (key_of s level) c up.named).1 in
      let k : ℕ = octant_of s level in
      let kid : ℕ → Tree = λ j. tree_from (at_of words) below (at_of words (child_place c j)) in
      let next : WordOf (key_of s (suc level)) (at_of words (child_place c k)) =
      Child c k up.is_cell (octant-small s level) (key-suc s level ∙ ap (λ z. 8 * z + k) (sym key)) refl in
      let rest = leaf_there n more below (suc level) deep (at_of words (child_place c k)) (omega arith) (omega arith) next y in
      subst (λ (z : List ℕ). IsIn z (key_of s deep))
      (sym (ap (λ v. leaf_keys_from n (tree_from (at_of words) (suc below) v) (key_of s level)) e
      ∙ ap (λ t. leaf_keys_from n t (key_of s level)) (tree-cell (at_of words) below c) ∙ leaf-cell n kid (key_of s level)))
      (joined_in (λ j. leaf_keys_from n (kid j) (8 * key_of s level + j)) 8 k (key_of s deep) (octant-small s level)
      (subst (λ (z : ℕ). IsIn (leaf_keys_from n (kid k) z) (key_of s deep)) (key-suc s level) rest))

  -- a body stays in its cell exactly where its new point lies in the cube of its word
  pub keeps_so : (news : List Site) (n key place : ℕ) → length sites ≡ length news → IsLeafAt words key n place
      → keeps sites news n ≡ true ↔ IsUnder key (site_at news n)
  keeps_so news n key place many leaf =
      let t : Site = site_at news n in
      let y : WordOf key (body_word n) = subst (WordOf key) leaf.1 (word_at_place (at_of words) 0 1 (HasCell words) key place leaf.0) in
      let u : IsUnder key (site_at sites n) = (h.stands.names_body key n y).1 in
      let s : Site = site_at sites n in
      let tree : tree_from (at_of words) 22 (at_of words 0) ≡ octree (site_at sites) (numbers (length news)) =
      h.tree ∙ ap (λ c. octree (site_at sites) (numbers c)) many in (
        (λ e.
            let f = any_member (λ q. is_under q t) (leaf_keys_from n (octree (site_at sites) (numbers (length news))) 1) e in
            let z : WordOf f.0 (body_word n) = leaf_named n f.0 22 1 (at_of words 0) (Top refl refl) (word_is (at_of words 0))
            (subst (λ (v : Tree). IsIn (leaf_keys_from n v 1) f.0) (sym tree) f.1) in
            let same : f.0 ≡ key = one_key_of_body (site_at sites) (at_of words) (at_of words 0) 1 (HasCell words) (HasBody words) (HasBody words) h.stands
            n f.0 key z y in
            subst (λ (q : ℕ). IsUnder q t) same ((is_under_so f.0 t).0 f.2)),
        (λ v.
            let i = leaf_there n u.0 22 0 u.0 (at_of words 0) (omega arith) (omega (arith, u.1)) (Top (key-zero s) refl)
            (subst (λ (q : ℕ). WordOf q (body_word n)) u.2 y) in
            let j : IsIn (leaf_keys_from n (octree (site_at sites) (numbers (length news))) 1) key =
            subst (λ (q : Tree × ℕ × ℕ). IsIn (leaf_keys_from n q.0 q.1) q.2) (λ b. (tree b, key-zero s b, sym u.2 b)) i in
            member_any (λ q. is_under q t) (leaf_keys_from n (octree (site_at sites) (numbers (length news))) 1) key j ((is_under_so key t).1 v)),
      )

  -- each body has its leaf
  pub leaf_at : (n : ℕ) → n < length sites → (place : ℕ) × (key : ℕ) × IsLeafAt words key n place
  leaf_at n less =
      let g = h.stands.body_named n ((h.bodies n).1 less) in
      let f = place_of_word (at_of words) 0 1 (HasCell words) (key_of (site_at sites n) g.level) (body_word n) g.named in
      (f.place, key_of (site_at sites n) g.level, (f.of_key, sym f.holds))

  -- a body that did not move stays
  pub still_keeps : (news : List Site) (n : ℕ) → length sites ≡ length news → n < length news → site_at sites n ≡ site_at news n → keeps sites news n ≡ true
  still_keeps news n many less still =
      let f = leaf_at n (omega arith) in
      let y = subst (WordOf f.1) f.2.1 (word_at_place (at_of words) 0 1 (HasCell words) f.1 f.0 f.2.0) in
      (keeps_so news n f.1 f.0 many f.2).1 (subst (IsUnder f.1) still (h.stands.names_body f.1 n y).1)

  module _ (news : List Site) (n place level : ℕ) (many : length sites ≡ length news) (shallow : level ≤ 21)
      (leaf : IsLeafAt words (key_of (site_at sites n) level) n place) where
    -- a body stays where its new point has the key of its leaf
    pub same_keeps : key_of (site_at sites n) level ≡ key_of (site_at news n) level → keeps sites news n ≡ true
    same_keeps e = (keeps_so news n (key_of (site_at sites n) level) place many leaf).1 (level, shallow, e)

    -- and leaves where it has not
    pub other_leaves : key_of (site_at sites n) level ≢ key_of (site_at news n) level → keeps sites news n ≡ false
    other_leaves off = elim (cases_Bool (keeps sites news n)) [
      | inr f ↦ f
      | inl t ↦
          let u = (keeps_so news n (key_of (site_at sites n) level) place many leaf).0 t in
          let same : level ≡ u.0 = same_level (site_at sites n) (site_at news n) level u.0 u.2 in
          absurd (off (u.2 ∙ ap (key_of (site_at news n)) (sym same)))
    ]
