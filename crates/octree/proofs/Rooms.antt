-- An octree keeps what it is when cells are reserved.
use Rattle.std.proofs.Common.{ℕ, List, ◌↔◌, subst, sym}
use Rattle.octant_code.specs.Space.{Site}
use Rattle.octree.specs.Stored.{IsCanonical, IsRoomier, Stored}
use Rattle.tree_rule.specs.Words.{HasBody, at_of}
use Rattle.tree_rule.specs.Sound.{BodiesUnder}
use Rattle.octant_code.specs.Points.{site_at}

-- the roomier octree has the same bodies
pub roomier_bodies : (before after : Stored) (n : ℕ) → IsRoomier before after → HasBody after.words n ↔ HasBody before.words n
roomier_bodies before after n r = (subst (λ words. HasBody words n) r.words_stay, subst (λ words. HasBody words n) (sym r.words_stay))

-- and is canonical at the same points
pub roomier_canonical : (sites : List Site) (before after : Stored) → IsRoomier before after → IsCanonical sites before → IsCanonical sites after
roomier_canonical sites before after r h = record {
  under = subst (λ (base : ℕ). BodiesUnder (site_at sites) (at_of after.words) (at_of after.words 0) base) (sym r.base_stays)
      (subst (λ (words : List ℕ). BodiesUnder (site_at sites) (at_of words) (at_of words 0) before.base) (sym r.words_stay) h.under);
  bodies_in = λ n b. h.bodies_in n ((roomier_bodies before after n r).0 b);
}
