use Rattle.std.proofs.Common.{◌≡◌, ◌≤◌, ℕ, List, length, sym, subst, ap, arith, ◌∙◌}
use Rattle.std.specs.Arc.{arc_value}
use Rattle.bh_model.specs.Bodies.{IsIn, NoneTwice, numbers}
use Rattle.bh_model.proofs.Lists.{in_numbers, numbers_once}
use Rattle.bh_model.proofs.Standing.{length_numbers}
use Rattle.octree.proofs.Laws.{empty_canonical}
use Rattle.tree_passes.specs.Counting.{times}
use Rattle.tree_passes.proofs.Laws.{in_times, times-append}
use Rattle.shared_tree.specs.Seen.{PassState}
use Rattle.library_rows.proofs.private_trees.merged_alone.Given.{Over}
use Rattle.library_rows.proofs.private_trees.merged_alone.Goals.{After-deref-2, After-deref-4}
use Rattle.library_rows.proofs.private_trees.merged_alone.Goals as goal

-- the list that the tree is opened with, and the share, which is the same: all numbers
listed : (g : Over) (c : After-deref-2 g) → c.deref-2.result.now ≡ numbers (length (arc_value c.args.points.now))
listed g c = c.deref-2.ensures.value ∙ c.in_ok-share.ensures ∙ ap numbers (c.len-count.ensures.value ∙ ap length c.deref.ensures)

shared : (g : Over) (c : After-deref-4 g) → c.deref-4.result.now ≡ numbers (length (arc_value c.args.points.now))
shared g c = c.deref-4.ensures.value ∙ c.in_ok-share.ensures ∙ ap numbers (c.len-count.ensures.value ∙ ap length c.deref.ensures)

pub open-requires-clause-canonical : goal.open-requires-clause-canonical
open-requires-clause-canonical g c = empty_canonical (arc_value c.args.points.now) c.in_ok-start.start c.in_ok-start.ensures.empty

pub open-requires-clause-todo_once : goal.open-requires-clause-todo_once
open-requires-clause-todo_once g c =
    subst NoneTwice (sym (listed g (goal.at.open-requires-clause-todo_once g c).After-deref-2)) (numbers_once (length (arc_value c.args.points.now)))

pub open-requires-clause-todo_in : goal.open-requires-clause-todo_in
open-requires-clause-todo_in g c = λ x i.
    (in_numbers (length (arc_value c.args.points.now)) x).0
    (subst (λ (z : List ℕ). IsIn z x) (listed g (goal.at.open-requires-clause-todo_in g c).After-deref-2) i)

pub work-requires-clause-points : goal.work-requires-clause-points
work-requires-clause-points g c = λ κ inside. c.deref-3.ensures ∙ sym c.in_ok-tree.ensures.points

pub work-requires-clause-distinct : goal.work-requires-clause-distinct
work-requires-clause-distinct g c = λ κ inside.
    subst NoneTwice (sym (shared g (goal.at.work-requires-clause-distinct g c).After-deref-4)) (numbers_once (length (arc_value c.args.points.now)))

pub work-requires-clause-todo : goal.work-requires-clause-todo
work-requires-clause-todo g c = λ κ inside x i.
    let todo : c.in_ok-tree.pass.todo ≡ c.deref-2.result.now = ap (λ (p : PassState). p.todo) c.in_ok-tree.ensures.pass in
    let same : c.deref-4.result.now ≡ c.in_ok-tree.pass.todo = c.deref-4.ensures.value ∙ sym c.deref-2.ensures.value ∙ sym todo in
    in_times x c.in_ok-tree.pass.todo (subst (λ (z : List ℕ). IsIn z x) same i)

pub work-requires-clause-spare : goal.work-requires-clause-spare
work-requires-clause-spare g c =
    let count = length (arc_value c.args.points.now) in
    let long : length c.deref-4.result.now ≡ count =
    ap length (shared g (goal.at.work-requires-clause-spare g c).After-deref-4) ∙ length_numbers count in
    let counted : c.len-count.result ≡ count = c.len-count.ensures.value ∙ ap length c.deref.ensures in
    omega (arith, long, counted, c.in_ok-own.ensures.held, c.in_ok-own.ensures.used)

pub close-octree-requires-clause-all : goal.close-octree-requires-clause-all
close-octree-requires-clause-all g c = λ x.
    let none = ap (λ (p : PassState). times x p.done) c.in_ok-tree.ensures.pass in
    let todo = ap (λ (p : PassState). times x p.todo) c.in_ok-tree.ensures.pass in
    let opening = ap (times x) c.in_ok-tree.ensures.todo in
    let parts = times-append x c.work.new.pass.todo c.work.new.pass.done in
    omega (arith, none, todo, opening, parts, c.work.ensures.todo x, c.work.ensures.done x)
