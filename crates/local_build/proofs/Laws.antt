-- What callers rest on.
use Rattle.std.proofs.Common.{ℕ, ◌-◌, ◌<◌, ◌≡◌, ◌↔◌, ◌∙◌, ap, List, length}
use Rattle.octant_code.specs.Points.{site_at}
use Rattle.octant_code.specs.Space.{Site}
use Rattle.bh_model.proofs.Lists.{in_numbers, numbers_once}
use Rattle.bh_model.specs.Bodies.{IsIn, NoneTwice, numbers}
use Rattle.bh_model.specs.Trees.{octree_from, order}
use Rattle.octree.proofs.Laws.{whole_level}
use Rattle.octree.specs.Stored.{IsCanonical, IsOctreeOf, IsStored, Stored, tree_of}
use Rattle.tree_rule.specs.Words.{HasBody}

-- an octree is the canonical one of any list of its bodies
abbrev pub IsTreeOfAny : List Site → Stored → Type 0
IsTreeOfAny sites t = (bodies : List ℕ) → NoneTwice bodies → ((m : ℕ) → IsIn (order (tree_of t)) m ↔ IsIn bodies m)
    → tree_of t ≡ octree_from (site_at sites) (21 - t.level) t.level bodies

-- an octree that has just the numbers of all points is that of all points
pub octree_of_all : (sites : List Site) (t : Stored) → t.base ≡ 1 → IsCanonical sites t → ((n : ℕ) → HasBody t.words n ↔ (n < length sites)) → IsStored t
    → ((n : ℕ) → IsIn (order (tree_of t)) n ↔ HasBody t.words n) → IsTreeOfAny sites t → IsOctreeOf sites t
octree_of_all sites t base canonical all stored named law =
    let count : ℕ = length sites in
    let members : (m : ℕ) → IsIn (order (tree_of t)) m ↔ IsIn (numbers count) m = λ m. (
      (λ b. (in_numbers count m).1 ((all m).0 ((named m).0 b))),
      (λ b. (named m).1 ((all m).1 ((in_numbers count m).0 b))),
    ) in
    record {
      base = base;
      canonical = canonical;
      tree = law (numbers count) (numbers_once count) members ∙ ap (λ l. octree_from (site_at sites) (21 - l) l (numbers count)) (whole_level t stored base);
    }
