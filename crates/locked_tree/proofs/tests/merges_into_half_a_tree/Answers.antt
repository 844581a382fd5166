use Rattle.std.proofs.Common.{[], ◌∷◌, ap, arith}
use Rattle.std.specs.Arc.{arc_value}
use Rattle.octree.proofs.Laws.{empty_canonical, reached_blank}
use Rattle.tree_rule.specs.Words.{at_of, body_word}
use Rattle.shared_tree.specs.Seen.{PassState}
use Rattle.tree_passes.specs.Counting.{times, without_all}
use Rattle.tree_passes.proofs.Laws.{times-append}
use Rattle.locked_tree.proofs.tests.merges_into_half_a_tree.Goals as goal

pub open-requires-clause-canonical : goal.open-requires-clause-canonical
open-requires-clause-canonical g c = empty_canonical (arc_value c.in_ok-points.points) c.in_ok-start.start c.in_ok-start.ensures.empty

pub open-requires-clause-todo_fresh : goal.open-requires-clause-todo_fresh
open-requires-clause-todo_fresh g c = λ x i r.
    let at = at_of c.in_ok-start.start.words in
    absurd (omega (arith, reached_blank at (at 0) (body_word x) c.in_ok-start.ensures.empty r))

pub close-octree-requires-clause-all : goal.close-octree-requires-clause-all
close-octree-requires-clause-all g c = λ x.
    let opening = ap (times x) c.in_ok-tree.ensures.todo in
    let began = ap (λ (p : PassState). times x p.done) c.in_ok-tree.ensures.pass in
    let todo = ap (λ (p : PassState). times x (without_all (2 ∷ 3 ∷ []) p.todo)) c.in_ok-tree.ensures.pass in
    let kept = ap (λ (p : PassState). times x p.todo) c.in_ok-second.ensures.kept in
    let done = ap (λ (p : PassState). times x p.done) c.in_ok-second.ensures.kept in
    let new = ap (λ (p : PassState). times x p.done) c.in_ok-second.ensures.new in
    let one = ap (λ (p : PassState). times x p.done) c.insert.ensures in
    let two = ap (λ (p : PassState). times x p.done) c.insert-2.ensures in
    let e = c.merge.ensures in
    let left = ap (λ (p : PassState). times x p.todo) c.join.ensures in
    let both = ap (λ (p : PassState). times x p.done) c.join.ensures in
    let sum = times-append x c.merge.new.pass.done c.insert-2.new.pass.done in
    let all = times-append x c.join.new.into.todo c.join.new.into.done in
    omega (arith, e.todo x, e.done x)
