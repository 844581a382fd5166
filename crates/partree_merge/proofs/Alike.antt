-- The blocks of lists depend on what is in them alone.
use Rattle.std.proofs.Common.{ℕ, ◌≡◌, ◌↔◌, zero, suc, refl, sym, ◌∙◌, ap, inl, inr, true, false, not, eqb, eq-eqb, List, [], ◌∷◌}
use Rattle.std.specs.List.{list_any}
use Rattle.std.proofs.lemmas.Bool.{cases_Bool}
use Rattle.octant_code.specs.Space.{Site}
use Rattle.bh_model.specs.Bodies.{IsIn}
use Rattle.bh_model.specs.Blocks.{blocks_from}
use Rattle.bh_model.specs.Trees.{in_octant}
use Rattle.bh_model.proofs.Blocks.{blocks-alone, blocks-deep, blocks-many, blocks-none, octant_blocks}
use Rattle.bh_model.proofs.Cells.{in_octant-keeps, in_octant-member}
use Rattle.bh_model.proofs.Equal.{not-eqb}
use Rattle.bh_model.proofs.Lists.{filter-keeps, filter-member}
use Rattle.bh_model.proofs.Totals.{sum_upto-same}
use Rattle.shared_tree.specs.Merging.{others_among}

-- two lists have the same members
abbrev pub AreAlike : List ℕ → List ℕ → Type 0
AreAlike xs ys = (n : ℕ) → IsIn xs n ↔ IsIn ys n

module _ (site : ℕ → Site) where
  octants_alike : (level k : ℕ) (xs ys : List ℕ) → AreAlike xs ys → AreAlike (in_octant site level k xs) (in_octant site level k ys)
  octants_alike level k xs ys same n = (
    (λ i. let f = in_octant-member site level k xs n i in in_octant-keeps site level ys n k ((same n).0 f.0) f.1),
    (λ i. let f = in_octant-member site level k ys n i in in_octant-keeps site level xs n k ((same n).1 f.0) f.1),
  )

  pub blocks_alike : (below level : ℕ) (xs ys os ps : List ℕ) → AreAlike xs ys → AreAlike os ps
      → blocks_from site below level xs os ≡ blocks_from site below level ys ps
  blocks_alike below level [] [] os ps mine theirs = blocks-none site below level os ∙ sym (blocks-none site below level ps)
  blocks_alike below level [] (y ∷ ys) os ps mine theirs = absurd ((mine y).1 (inl refl))
  blocks_alike below level (x ∷ xs) [] os ps mine theirs = absurd ((mine x).0 (inl refl))
  blocks_alike below level (x ∷ xs) (y ∷ ys) [] [] mine theirs = blocks-alone site below level x xs ∙ sym (blocks-alone site below level y ys)
  blocks_alike below level (x ∷ xs) (y ∷ ys) [] (p ∷ ps) mine theirs = absurd ((theirs p).1 (inl refl))
  blocks_alike below level (x ∷ xs) (y ∷ ys) (o ∷ os) [] mine theirs = absurd ((theirs o).0 (inl refl))
  blocks_alike zero level (x ∷ xs) (y ∷ ys) (o ∷ os) (p ∷ ps) mine theirs =
      blocks-deep site level x o xs os ∙ sym (blocks-deep site level y p ys ps)
  blocks_alike (suc below) level (x ∷ xs) (y ∷ ys) (o ∷ os) (p ∷ ps) mine theirs =
      blocks-many site below level x o xs os
      ∙ sum_upto-same (octant_blocks site below level (x ∷ xs) (o ∷ os)) (octant_blocks site below level (y ∷ ys) (p ∷ ps)) 8
      (λ k small. blocks_alike below (suc level) (in_octant site level k (x ∷ xs)) (in_octant site level k (y ∷ ys)) (in_octant site level k (o ∷ os))
      (in_octant site level k (p ∷ ps)) (octants_alike level k (x ∷ xs) (y ∷ ys) mine) (octants_alike level k (o ∷ os) (p ∷ ps) theirs))
      ∙ sym (blocks-many site below level y p ys ps)

-- the test finds each member
listed : (n : ℕ) (l : List ℕ) → IsIn l n → list_any (λ x. eqb x n) l ≡ true
listed n [] i = absurd i
listed n (x ∷ xs) (inl e) = rw (eq-eqb x n (sym e)) refl
listed n (x ∷ xs) (inr i) = elim (cases_Bool (eqb x n)) [ inl t ↦ rw t refl | inr f ↦ rw f (listed n xs i) ]

-- and nothing else
not_listed : (n : ℕ) (l : List ℕ) → (IsIn l n → ⊥) → list_any (λ x. eqb x n) l ≡ false
not_listed n [] none = refl
not_listed n (x ∷ xs) none = rw (not-eqb x n (λ e. none (inl (sym e)))) (not_listed n xs (λ i. none (inr i)))

flipped : not true ≡ true → ⊥
flipped e = cc

-- a body is among the others where it is a body and not in the list
pub in_others : (bodies l : List ℕ) (n : ℕ) → IsIn (others_among bodies l) n ↔ (IsIn bodies n × (IsIn l n → ⊥))
in_others bodies l n = (
  (λ i. let f = filter-member (λ m. not (list_any (λ x. eqb x m) l)) bodies n i in (f.0, (λ j. flipped (sym (ap not (listed n l j)) ∙ f.1)))),
  (λ p. filter-keeps (λ m. not (list_any (λ x. eqb x m) l)) bodies n p.0 (ap not (not_listed n l p.1))),
)

pub others_alike : (bodies all xs ys : List ℕ) → AreAlike bodies all → AreAlike xs ys → AreAlike (others_among bodies xs) (others_among all ys)
others_alike bodies all xs ys same mine n = (
  (λ i. let p = (in_others bodies xs n).0 i in (in_others all ys n).1 ((same n).0 p.0, (λ j. p.1 ((mine n).1 j)))),
  (λ i. let p = (in_others all ys n).0 i in (in_others bodies xs n).1 ((same n).1 p.0, (λ j. p.1 ((mine n).0 j)))),
)
