-- A tree that was opened empty with all numbers, and shares of these.
use Rattle.std.proofs.Common.{ℕ, ◌≡◌, ◌<◌, ◌≤◌, ◌↔◌, ◌++◌, zero, suc, sym, ◌∙◌, ap, subst, inl, inr, arith, All, List, [], ◌∷◌, Vec, Global, get_or}
use Rattle.std.proofs.Common.{length, map}
use Rattle.std.proofs.lemmas.Bool.{cases_lt}
use Rattle.octant_code.specs.Space.{Site}
use Rattle.bh_model.specs.Bodies.{IsIn, numbers}
use Rattle.bh_model.specs.Trees.{order}
use Rattle.bh_model.proofs.Lists.{in_numbers}
use Rattle.tree_rule.specs.Words.{at_of, tree_from}
use Rattle.tree_rule.proofs.Laws.{tree-empty}
use Rattle.tree_passes.specs.Counting.{times}
use Rattle.tree_passes.specs.Opening.{Opening, all_bodies, start_bodies}
use Rattle.tree_passes.proofs.Laws.{in_times, times_once}
use Rattle.shared_tree.specs.Seen.{SharedTree}
use Rattle.build_workers.specs.Shares.{times_in_all, AreShares}
use Rattle.build_workers.proofs.Laws.{part_of_all}
use Rattle.partree_merge.specs.Merging.{CanMerge}

-- the bodies are the numbers that were to be put in
opened_all : (o : Opening) (count : ℕ) → at_of o.words 0 ≡ 0 → o.todo ≡ numbers count → (x : ℕ) → IsIn (all_bodies o) x ↔ (x < count)
unfolding order
opened_all o count empty todo x =
    let none : start_bodies o ≡ [] = ap (λ (z : ℕ). order (tree_from (at_of o.words) 22 z)) empty ∙ ap order (tree-empty (at_of o.words) 21) in
    let all : all_bodies o ≡ numbers count = ap (λ (z : List ℕ). z ++ o.todo) none ∙ todo in
    subst (λ (z : List ℕ). IsIn z x ↔ (x < count)) (sym all) (in_numbers count x)

-- each share can be merged
pub can_merge_all : (sites : List Site) (t : SharedTree) (shares : List (Vec ℕ Global)) → AreShares (length sites) (map (λ s. s.items) shares)
    → t.opening.sites ≡ sites → at_of t.opening.words 0 ≡ 0 → t.opening.todo ≡ numbers (length sites) → All (λ s. CanMerge sites t s.items) shares
can_merge_all sites t shares are points empty todo = λ k d less.
    let part : (x : ℕ) → times x (get_or shares k d).items ≤ times_in_all x (map (λ s. s.items) shares) = λ x. part_of_all
    (λ (v : Vec ℕ Global). v.items) x k d shares less in
    record {
      points = points;
      bodies = opened_all t.opening (length sites) empty todo;
      once = times_once (get_or shares k d).items (λ x. elim (cases_lt x (length sites)) [
        | inl l ↦ omega (arith, part x, are.once x l)
        | inr l ↦ omega (arith, part x, are.no_other x (omega arith))
      ]);
      within = λ x i. elim (cases_lt x (length sites)) [
        | inl l ↦ l
        | inr l ↦ absurd (omega (arith, part x, are.no_other x (omega arith), in_times x (get_or shares k d).items i))
      ];
    }
