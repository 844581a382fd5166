-- What a search leaves.
use Rattle.std.proofs.Common.{◌≡◌, ℕ, Bool, true, false, sym, ap, ◌∙◌, refl, subst, arith}
use Rattle.octant_code.specs.Space.{Site, same_coordinates}
use Rattle.octant_code.specs.Points.{site_at}
use Rattle.octant_code.proofs.SeenPoints.{same_coordinates_refl, same_coordinates_true}
use Rattle.tree_rule.specs.Words.{body_word}
use Rattle.tree_rule.proofs.Laws.{ACell, NoBody, OneBody, WordIs, word_is}
use Rattle.tree_passes.specs.declared.view.View.{View}
use Rattle.tree_passes.specs.Looks.{Sought}

pub true_not_false : true ≡ false → ⊥
true_not_false e = cc

-- a search keeps what was learnt under locks
pub under_sought : (v : View) (i key value : ℕ) (point : Site) (w : View) → Sought v i key value point w → w.under ≡ v.under
under_sought v i key value point w h = by_word (word_is value)
  where
    plain : h.plain.under ≡ v.under
    plain = ap (λ (z : View). z.under) h.looked.view

    missed : ((y : ℕ) → value ≡ body_word y → site_at v.points y ≡ point → ⊥) → w.under ≡ v.under
    missed n = ap (λ (z : View). z.under) (h.miss n) ∙ plain

    by_test : (y : ℕ) → value ≡ body_word y → (b : Bool) → same_coordinates (site_at v.points y) point ≡ b → w.under ≡ v.under
    by_test y e true t = ap (λ (z : View). z.under) (h.hit y e (same_coordinates_true (site_at v.points y) point t)) ∙ plain
    by_test y e false f = missed (λ z g is.
        let one : z ≡ y = omega arith in
        let same : same_coordinates (site_at v.points y) point ≡ true =
        subst (λ (s : Site). same_coordinates (site_at v.points y) s ≡ true) (ap (site_at v.points) (sym one) ∙ is)
        (same_coordinates_refl (site_at v.points y)) in
        true_not_false (sym same ∙ f))

    by_word : WordIs value → w.under ≡ v.under
    by_word (NoBody e) = missed (λ y f g. absurd (omega arith))
    by_word (OneBody y e) = by_test y e (same_coordinates (site_at v.points y) point) refl
    by_word (ACell c e) = missed (λ y f g. absurd (omega arith))
