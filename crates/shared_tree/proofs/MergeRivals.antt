-- The other bodies of an opening are the rivals of a part in the whole cube.
use Rattle.std.proofs.Common.{ℕ, ◌<◌, ◌≤◌, ◌≡◌, ◌⊎◌, refl, sym, ◌∙◌, ap, inl, inr, arith, true, false, not, eqb, eq-eqb, List, [], ◌∷◌, length}
use Rattle.std.specs.List.{list_any}
use Rattle.std.proofs.lemmas.Bool.{cases_Bool, cases_lt}
use Rattle.octant_code.specs.Points.{site_at}
use Rattle.octant_code.specs.Space.{Site}
use Rattle.octant_code.proofs.Keys.{key-zero}
use Rattle.bh_model.specs.Blocks.{blocks}
use Rattle.bh_model.specs.Bodies.{IsIn}
use Rattle.bh_model.proofs.Equal.{not-eqb}
use Rattle.bh_model.proofs.Lists.{filter-keeps, filter-member}
use Rattle.tree_passes.specs.declared.view.View.{View}
use Rattle.tree_passes.specs.Counting.{times}
use Rattle.tree_passes.proofs.Laws.{in_times, times_in}
use Rattle.shared_tree.specs.Merging.{AreBlocks, AreRivals, others_among}
use Rattle.shared_tree.proofs.Sought.{true_not_false}

-- the test finds each member
listed : (n : ℕ) (l : List ℕ) → IsIn l n → list_any (λ x. eqb x n) l ≡ true
listed n [] i = absurd i
listed n (x ∷ xs) (inl e) = rw (eq-eqb x n (sym e)) refl
listed n (x ∷ xs) (inr i) = elim (cases_Bool (eqb x n)) [ inl t ↦ rw t refl | inr f ↦ rw f (listed n xs i) ]

-- and nothing else
not_listed : (n : ℕ) (l : List ℕ) → (IsIn l n → ⊥) → list_any (λ x. eqb x n) l ≡ false
not_listed n [] none = refl
not_listed n (x ∷ xs) none = rw (not-eqb x n (λ e. none (inl (sym e)))) (not_listed n xs (λ i. none (inr i)))

-- a body is one of the part or one of the others
mine_or_other : (bodies mine : List ℕ) (n : ℕ) → IsIn bodies n → IsIn mine n ⊎ IsIn (others_among bodies mine) n
mine_or_other bodies mine n i = elim (cases_lt 0 (times n mine)) [
  | inl l ↦ inl (times_in n mine (omega arith))
  | inr l ↦ inr (filter-keeps (λ m. not (list_any (λ x. eqb x m) mine)) bodies n i
      (ap not (not_listed n mine (λ j. let a = in_times n mine j in absurd (omega arith)))))
]

-- the others are the rivals in the whole cube
pub rivals_all : (v : View) (sites : List Site) (mine : List ℕ) → ((n : ℕ) → IsIn v.bodies n → n < length sites)
    → AreRivals v sites 1 0 mine (others_among v.bodies mine)
rivals_all v sites mine within =
    let other : (n : ℕ) → IsIn (others_among v.bodies mine) n → IsIn v.bodies n × (not (list_any (λ x. eqb x n) mine) ≡ true) =
    λ n i. filter-member (λ m. not (list_any (λ x. eqb x m) mine)) v.bodies n i in
    record {
      others_in = λ n i. within n (other n i).0;
      under = λ n i. sym (key-zero (site_at sites n));
      apart = λ n i j. true_not_false (sym (other n j).1 ∙ ap not (listed n mine i));
      all = λ n i e. mine_or_other v.bodies mine n i;
    }

-- so that what is at most the blocks against all rivals is at most those against the others of the opening
pub blocks_among : (v : View) (sites : List Site) (mine : List ℕ) (count : ℕ) → ((n : ℕ) → IsIn v.bodies n → n < length sites)
    → AreBlocks v sites 1 0 mine count → count ≤ blocks (site_at sites) mine (others_among v.bodies mine)
blocks_among v sites mine count within blocks_are = blocks_are (others_among v.bodies mine) (rivals_all v sites mine within)
