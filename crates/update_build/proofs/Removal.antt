-- What stands once the bodies that leave their cells were taken out.
use Rattle.std.proofs.Common.{ℕ, ◌-◌, ◌*◌, ◌<◌, ◌≤◌, ◌≡◌, ◌↔◌, refl, sym, ◌∙◌, ap, subst, inl, inr, arith, true, false, List, [], ◌∷◌, ◌++◌}
use Rattle.std.proofs.Common.{length, map, replicate}
use Rattle.std.proofs.lemmas.Bool.{cases_Bool}
use Rattle.std.proofs.lemmas.List.{append-nil}
use mathlib.Core.Logic.{dite}
use native.Mathlib.Decide.{ℕ_discrete}
use Rattle.octant_code.specs.Points.{ArePoints, site_at}
use Rattle.octant_code.specs.Space.{IsUnder, Site}
use Rattle.bh_model.specs.Bodies.{IsIn, numbers}
use Rattle.bh_model.specs.Trees.{Tree, order}
use Rattle.bh_model.proofs.Cells.{placed_of_points}
use Rattle.bh_model.proofs.Lists.{filter-keeps, filter-member, in_numbers, numbers_once}
use Rattle.bh_model.proofs.Orders.{order_members}
use Rattle.bh_model.proofs.Standing.{numbers_within}
use Rattle.tree_rule.proofs.Laws.{stands_of_sound, word_at_place}
use Rattle.tree_rule.specs.Flat.{IsWordOf}
use Rattle.tree_rule.specs.Sound.{BodiesUnder}
use Rattle.tree_rule.specs.Words.{HasBody, HasCell, at_of, key_place, tree_from}
use Rattle.octree.proofs.Laws.{bodies_of_tree}
use Rattle.octree.specs.Stored.{AreOctreeWords, IsOctreeOf, IsStored, Stored, all_words}
use Rattle.tree_passes.proofs.Laws.{same-ne, sum_of-map, times-all_of}
use Rattle.tree_passes.specs.Counting.{all_of, same, sum_of, times}
use Rattle.update_build.proofs.WaysDown.{keeps_so}
use Rattle.update_build.proofs.Thinning.{thinned_by}
use Rattle.update_build.specs.Contracting.{IsWhatStays}
use Rattle.update_build.specs.Moving.{ArePlacesOf, AreWordsOf, IsLeafAt, IsThinnedBy, keeps}
use Rattle.update_build.specs.Staying.{StaysOf, movers_in}
use Rattle.update_build.specs.Sweeping.{AreSwept}

-- the words of an octree without spare cells
pub words_alone : (o p : Stored) → p ≡ record o { held = o.used } → all_words p ≡ o.words
words_alone o p e =
    let none : o.used - o.used ≡ 0 = omega arith in
    ap all_words e ∙ ap (λ (k : ℕ). o.words ++ replicate (10 * k) 0) none ∙ append-nil o.words

-- they are those of the octree of all points
pub words_of_octree : (sites : List Site) (o : Stored) (words : List ℕ) → ArePoints sites → IsStored o → IsOctreeOf sites o → words ≡ o.words
    → AreOctreeWords words → AreWordsOf sites words
words_of_octree sites o words points stored is same rule = record {
  rule = rule;
  stands = stands_of_sound (site_at sites) (at_of words) (at_of words 0) 1 (omega arith) rule.sound
      (subst (λ (z : List ℕ × ℕ). BodiesUnder (site_at sites) (at_of z.0) (at_of z.0 0) z.1) (λ i. (sym same i, is.base i)) is.canonical.under);
  bodies = λ n.
      let b = bodies_of_tree o stored n in
      let m = order_members (site_at sites) (numbers (length sites)) n (numbers_once (length sites))
      (placed_of_points sites (numbers (length sites)) points (numbers_within (length sites))) in
      subst (λ (z : List ℕ). HasBody z n ↔ (n < length sites)) (sym same) (
        (λ has. (in_numbers (length sites) n).0 (m.0 (subst (λ (t : Tree). IsIn (order t) n) is.tree (b.1 has)))),
        (λ less. b.0 (subst (λ (t : Tree). IsIn (order t) n) (sym is.tree) (m.1 ((in_numbers (length sites) n).1 less)))),
      );
  tree = ap (λ (z : List ℕ). tree_from (at_of z) 22 (at_of z 0)) same ∙ is.tree;
}

-- ---- how often a body stands among the movers of shares

module _ (olds news : List Site) (n : ℕ) where
  none_kept : (share : List ℕ) → keeps olds news n ≡ true → times n (movers_in olds news share) ≡ 0
  none_kept [] e = refl
  none_kept (x ∷ xs) e = dite (ℕ_discrete x n)
      (λ is.
      let here : keeps olds news x ≡ true = ap (keeps olds news) is ∙ e in
      rw here (none_kept xs e))
      (λ off. elim (cases_Bool (keeps olds news x)) [
        | inl t ↦ rw t (none_kept xs e)
        | inr f ↦ rw f (omega (arith, same-ne x n off, none_kept xs e))
      ])

  all_left : (share : List ℕ) → keeps olds news n ≡ false → times n (movers_in olds news share) ≡ times n share
  all_left [] e = refl
  all_left (x ∷ xs) e = dite (ℕ_discrete x n)
      (λ is.
      let here : keeps olds news x ≡ false = ap (keeps olds news) is ∙ e in
      rw here (omega (arith, all_left xs e)))
      (λ off. elim (cases_Bool (keeps olds news x)) [
        | inl t ↦ rw t (omega (arith, same-ne x n off, all_left xs e))
        | inr f ↦ rw f (omega (arith, all_left xs e))
      ])

  none_in_all : (shares : List (List ℕ)) → keeps olds news n ≡ true → sum_of (times n) (map (movers_in olds news) shares) ≡ 0
  none_in_all [] e = refl
  none_in_all (s ∷ ss) e = omega (arith, none_kept s e, none_in_all ss e)

  all_in_all : (shares : List (List ℕ)) → keeps olds news n ≡ false → sum_of (times n) (map (movers_in olds news) shares) ≡ sum_of (times n) shares
  all_in_all [] e = refl
  all_in_all (s ∷ ss) e = omega (arith, all_left s e, all_in_all ss e)

  module _ {M : Type 0} (items : M → List ℕ) (movers : List M) (shares : List (List ℕ)) (are : map items movers ≡ map (movers_in olds news) shares) where
    count : times n (all_of items movers) ≡ sum_of (times n) (map (movers_in olds news) shares)
    count = times-all_of n items movers ∙ sym (sum_of-map (times n) items movers) ∙ ap (sum_of (times n)) are

    -- a body that stays is none of the movers
    pub stays_aside : keeps olds news n ≡ true → times n (all_of items movers) ≡ 0
    stays_aside e = count ∙ none_in_all shares e

    -- and one that is none of them stays, where a share has it
    pub aside_stays : 1 ≤ sum_of (times n) shares → times n (all_of items movers) ≡ 0 → keeps olds news n ≡ true
    aside_stays some none = elim (cases_Bool (keeps olds news n)) [
      | inl t ↦ t
      | inr f ↦ absurd (omega (arith, count, all_in_all shares f))
    ]

-- ---- the octree of what stays

module _ (olds news : List Site) (words : List ℕ) (h : AreWordsOf olds words) (many : length olds ≡ length news) {M : Type 0} (items : M → List ℕ)
    (movers places : List M) (shares : List (List ℕ)) (are : map items movers ≡ map (movers_in olds news) shares)
    (all : (n : ℕ) → n < length news → 1 ≤ sum_of (times n) shares) (found : ArePlacesOf words (all_of items movers) (all_of items places)) where
  -- a body that is no mover has its new point in the cube of its word
  under_new : (n key i : ℕ) → times n (all_of items movers) ≡ 0 → IsLeafAt words key n i → IsUnder key (site_at news n)
  under_new n key i none leaf =
      let x = subst (λ (y : ℕ). IsWordOf (at_of words) (at_of words 0) 1 (HasCell words) key y) leaf.1
      (word_at_place (at_of words) 0 1 (HasCell words) key i leaf.0) in
      let less : n < length olds = (h.bodies n).0 (h.stands.names_body key n x).0 in
      (keeps_so olds words h news n key i many leaf).0 (aside_stays olds news n items movers shares are (all n (omega arith)) none)

  pub thinned_of : (after : List ℕ) → AreSwept words after (all_of items places) → IsThinnedBy olds news words after (all_of items movers)
  thinned_of after swept = thinned_by olds news words after (all_of items movers) (all_of items places) h found under_new swept

  pub stays_of : (old tree : Stored) (after : List ℕ) → words ≡ old.words → AreSwept words after (all_of items places) → IsWhatStays news after tree
      → StaysOf olds news old tree
  stays_of old tree after same swept what =
      let thin = thinned_of after swept in
      record {
        base = what.base;
        canonical = what.canonical;
        bodies = λ n. (
          (λ has.
              let u = (thin.left n).0 ((what.bodies n).0 has) in
              let less : n < length news = omega (arith, (h.bodies n).0 u.0) in
              filter-keeps (keeps olds news) (numbers (length news)) n ((in_numbers (length news) n).1 less)
              (aside_stays olds news n items movers shares are (all n less) u.1)),
          (λ i.
              let u = filter-member (keeps olds news) (numbers (length news)) n i in
              (what.bodies n).1 ((thin.left n).1 (
                (h.bodies n).1 (omega (arith, (in_numbers (length news) n).0 u.0)),
                stays_aside olds news n items movers shares are u.1,
              ))),
        );
        cells = λ c has. (
          subst (λ (z : List ℕ). HasCell z c) same (thin.cells c (what.cells c has)),
          what.keys c ∙ thin.keys c ∙ ap (λ (z : List ℕ). at_of z (key_place c)) same,
        );
      }
