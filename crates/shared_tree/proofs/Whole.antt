-- A tree that was opened empty, and closed with all bodies put in.
use Rattle.std.proofs.Common.{ℕ, ◌-◌, ◌≡◌, ◌↔◌, ◌∙◌, ap, subst, inl, inr, arith, List, length}
use Rattle.octant_code.specs.Space.{Site}
use Rattle.octant_code.specs.Points.{site_at}
use Rattle.bh_model.specs.Bodies.{IsIn, NoneTwice, numbers}
use Rattle.bh_model.specs.Trees.{octree_from, order}
use Rattle.bh_model.proofs.Lists.{numbers_once}
use Rattle.tree_rule.specs.Words.{at_of, body_word, HasBody}
use Rattle.octree.proofs.Laws.{reached_blank, whole_level}
use Rattle.octree.specs.Stored.{IsCanonical, IsOctreeOf, IsStored, Stored, tree_of}
use Rattle.tree_passes.specs.Counting.{times}
use Rattle.tree_passes.specs.Opening.{Opening}
use Rattle.tree_passes.proofs.Laws.{in_times, times_in}
use Rattle.shared_tree.specs.Ends.{IsTreeAtEnd}

-- where the numbers of all points were put in, the octree is that of all points
pub octree_put : (sites : List Site) (o : Opening) (done seen : List ℕ) (t : Stored) → o.sites ≡ sites → IsTreeAtEnd o done seen t
    → at_of o.words 0 ≡ 0 → ((x : ℕ) → times x done ≡ times x (numbers (length sites))) → IsStored t
    → ((n : ℕ) → IsIn (order (tree_of t)) n ↔ HasBody t.words n)
    → ((bodies : List ℕ) → NoneTwice bodies → ((m : ℕ) → IsIn (order (tree_of t)) m ↔ IsIn bodies m)
    → tree_of t ≡ octree_from (site_at sites) (21 - t.level) t.level bodies)
    → IsOctreeOf sites t
octree_put sites o done seen t is ended empty put stored named law =
    let all = numbers (length sites) in
    let members : (m : ℕ) → IsIn (order (tree_of t)) m ↔ IsIn all m = λ m. (
      (λ b. elim ((ended.bodies m).0 ((named m).0 b)) [
        | inl old ↦ absurd (omega (arith, reached_blank (at_of o.words) (at_of o.words 0) (body_word m) empty old))
        | inr there ↦ let some = in_times m done there in let p = put m in times_in m all (omega arith)
      ]),
      (λ b. let some = in_times m all b in let p = put m in (named m).1 ((ended.bodies m).1 (inr (times_in m done (omega arith))))),
    ) in
    record {
      base = ended.base;
      canonical = subst (λ (s : List Site). IsCanonical s t) is ended.canonical;
      tree = law all (numbers_once (length sites)) members ∙ ap (λ l. octree_from (site_at sites) (21 - l) l all) (whole_level t stored ended.base);
    }
