-- An octree into which bodies are inserted in the order of their numbers.
use Rattle.std.proofs.Common.{ℕ, ◌+◌, ◌*◌, ◌<◌, ◌≤◌, ◌≡◌, ◌∙◌, inl, inr, arith, List, length}
use Rattle.octant_code.specs.Space.{Site}
use Rattle.octree.specs.Stored.{IsCanonical, IsInserted, Stored}
use Rattle.octree.proofs.Laws.{empty_canonical, reached_blank}
use Rattle.tree_rule.specs.Words.{HasBody, at_of, body_word}

-- The octree of the whole cube holds bodies below a number, and has room for all.
pub record IsFilled (sites : List Site) (o : Stored) (i : ℕ) : Type 0 where
  pub canonical : IsCanonical sites o
  pub below : (m : ℕ) → HasBody o.words m → m < i
  pub base : o.base ≡ 1
  pub used : o.used ≤ 21 * i
  pub held : o.held ≡ 21 * length sites

-- the empty octree
pub filled_none : (sites : List Site) (o : Stored) → at_of o.words 0 ≡ 0 → o.base ≡ 1 → o.used ≡ 0 → o.held ≡ 21 * length sites → IsFilled sites o 0
filled_none sites o empty base used held = record {
  canonical = empty_canonical sites o empty;
  below = λ m b. absurd (let r = reached_blank (at_of o.words) (at_of o.words 0) (body_word m) empty b in omega arith);
  base = base;
  used = omega arith;
  held = held;
}

-- one more body
pub filled_more : (sites : List Site) (o next : Stored) (i : ℕ) → IsFilled sites o i → IsCanonical sites next → IsInserted i o next
    → IsFilled sites next (i + 1)
filled_more sites o next i h canonical s = record {
  canonical = canonical;
  below = λ m b. elim ((s.bodies m).0 b) [ inl old ↦ let l = h.below m old in omega arith | inr e ↦ omega arith ];
  base = s.base_stays ∙ h.base;
  used = let a = h.used in let b = s.used_few in omega arith;
  held = s.held_stays ∙ h.held;
}
