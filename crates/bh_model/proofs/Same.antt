-- The canonical octree of a list depends on its members alone.
use Rattle.std.proofs.Common.{ℕ, ◌≡◌, ◌↔◌, zero, suc, refl, sym, ◌∙◌, ap, inl, inr, List, [], ◌∷◌, Bool, eqb}
use Rattle.octant_code.specs.Space.{Site, octant_of}
use Rattle.bh_model.specs.Bodies.{IsIn, NoneTwice}
use Rattle.bh_model.specs.Trees.{in_octant, octree_from}
use Rattle.bh_model.proofs.Lists.{filter-keeps, filter-member, none_twice-filter}
use Rattle.bh_model.proofs.Trees.{octree-many, cell_of-same}

-- at the deepest level the octrees of any two bodies or more are the same
empty_both : (site : ℕ → Site) (level a b c d : ℕ) (r s : List ℕ) → octree_from site zero level (a ∷ b ∷ r) ≡ octree_from site zero level (c ∷ d ∷ s)
unfolding octree_from
empty_both site level a b c d r s = refl

-- two lists without repeats that have the same members have the same octree
pub octree_same : (site : ℕ → Site) (below level : ℕ) (xs ys : List ℕ) → NoneTwice xs → NoneTwice ys → ((n : ℕ) → IsIn xs n ↔ IsIn ys n)
    → octree_from site below level xs ≡ octree_from site below level ys
octree_same site below level [] [] p q same = refl
octree_same site below level [] (y ∷ ys) p q same = absurd ((same y).1 (inl refl))
octree_same site below level (x ∷ xs) [] p q same = absurd ((same x).0 (inl refl))
octree_same site below level (x ∷ []) (y ∷ []) p q same =
    elim ((same x).0 (inl refl)) [ inl e ↦ ap (λ z. octree_from site below level (z ∷ [])) e | inr e ↦ absurd e ]
octree_same site below level (x ∷ []) (y ∷ z ∷ ys) p q same =
    absurd (q.0 (elim ((same y).1 (inl refl)) [
      | inl e ↦ elim ((same z).1 (inr (inl refl))) [ inl f ↦ inl (e ∙ sym f) | inr f ↦ absurd f ]
      | inr e ↦ absurd e
    ]))
octree_same site below level (x ∷ z ∷ xs) (y ∷ []) p q same =
    absurd (p.0 (elim ((same x).0 (inl refl)) [
      | inl e ↦ elim ((same z).0 (inr (inl refl))) [ inl f ↦ inl (e ∙ sym f) | inr f ↦ absurd f ]
      | inr e ↦ absurd e
    ]))
octree_same site zero level (a ∷ b ∷ r) (c ∷ d ∷ s) p q same = empty_both site level a b c d r s
octree_same site (suc below) level (a ∷ b ∷ r) (c ∷ d ∷ s) p q same =
    octree-many site below level a b r
    ∙ cell_of-same (λ k. octree_from site below (suc level) (in_octant site level k (a ∷ b ∷ r)))
    (λ k. octree_from site below (suc level) (in_octant site level k (c ∷ d ∷ s)))
    (λ k l.
    let t : ℕ → Bool = λ n. eqb (octant_of (site n) level) k in
    octree_same site below (suc level) (in_octant site level k (a ∷ b ∷ r)) (in_octant site level k (c ∷ d ∷ s))
    (none_twice-filter t (a ∷ b ∷ r) p) (none_twice-filter t (c ∷ d ∷ s) q)
    (λ n. (
      (λ i. let f = filter-member t (a ∷ b ∷ r) n i in filter-keeps t (c ∷ d ∷ s) n ((same n).0 f.0) f.1),
      (λ i. let f = filter-member t (c ∷ d ∷ s) n i in filter-keeps t (a ∷ b ∷ r) n ((same n).1 f.0) f.1),
    )))
    ∙ sym (octree-many site below level c d s)
