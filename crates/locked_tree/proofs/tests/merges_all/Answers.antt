use Rattle.std.proofs.Common.{◌<◌, ◌≤◌, ℕ, zero, suc, [], ◌∷◌, length, refl, ap, sym, subst, inl, inr, arith}
use Rattle.std.specs.Arc.{arc_value}
use Rattle.bh_model.specs.Bodies.{IsIn}
use Rattle.octree.proofs.Laws.{empty_canonical, reached_blank}
use Rattle.tree_rule.specs.Words.{at_of, body_word}
use Rattle.shared_tree.specs.Seen.{PassState}
use Rattle.tree_passes.specs.Counting.{times}
use Rattle.tree_passes.proofs.Laws.{in_times, times-append}
use Rattle.locked_tree.proofs.tests.merges_all.Goals as goal

pub open-requires-clause-canonical : goal.open-requires-clause-canonical
open-requires-clause-canonical g c = empty_canonical (arc_value c.in_ok-points.points) c.in_ok-start.start c.in_ok-start.ensures.empty

pub open-requires-clause-todo_fresh : goal.open-requires-clause-todo_fresh
open-requires-clause-todo_fresh g c = λ x i r.
    let at = at_of c.in_ok-start.start.words in
    absurd (omega (arith, reached_blank at (at 0) (body_word x) c.in_ok-start.ensures.empty r))

-- the four numbers
small : (x : ℕ) → x < 4 → IsIn (0 ∷ 1 ∷ 2 ∷ 3 ∷ []) x
small zero h = inl refl
small (suc zero) h = inr (inl refl)
small (suc (suc zero)) h = inr (inr (inl refl))
small (suc (suc (suc zero))) h = inr (inr (inr (inl refl)))
small (suc (suc (suc (suc n)))) h = absurd (omega arith)

pub merge-requires-clause-todo : goal.merge-requires-clause-todo
merge-requires-clause-todo g c = λ x b.
    let inside = c.in_ok-part.ensures.canonical.bodies_in x b in
    let counted = ap length c.deref.ensures in
    let built = ap length c.deref-2.ensures in
    let all = in_times x (0 ∷ 1 ∷ 2 ∷ 3 ∷ []) (small x (omega (arith, inside, c.len.ensures.value, c.if-len-ne4.false))) in
    subst (λ (p : PassState). 1 ≤ times x p.todo) (sym c.in_ok-tree.ensures.pass) all

pub close-octree-requires-clause-all : goal.close-octree-requires-clause-all
close-octree-requires-clause-all g c = λ x.
    let opening = ap (times x) c.in_ok-tree.ensures.todo in
    let todo = ap (λ (p : PassState). times x p.todo) c.in_ok-tree.ensures.pass in
    let done = ap (λ (p : PassState). times x p.done) c.in_ok-tree.ensures.pass in
    let e = c.merge.ensures in
    omega (arith, e.todo x, e.done x, times-append x c.merge.new.pass.todo c.merge.new.pass.done)
