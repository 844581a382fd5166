use Rattle.std.proofs.Common.{◌≡◌, ℕ, List, length, map, sym, subst, ap, ◌∙◌, arith, ◌<◌, All, Vec, Global}
use Rattle.std.specs.Arc.{arc_value}
use Rattle.octant_code.specs.Space.{Site}
use Rattle.bh_model.specs.Bodies.{IsIn, NoneTwice, numbers}
use Rattle.bh_model.proofs.Lists.{in_numbers, numbers_once}
use Rattle.bh_model.proofs.Standing.{length_numbers}
use Rattle.octree.specs.Stored.{IsOctreeOf}
use Rattle.tree_passes.specs.Counting.{times}
use Rattle.octree.proofs.Laws.{empty_canonical}
use Rattle.shared_tree.proofs.Laws.{octree_put}
use Rattle.shared_tree.specs.Seen.{risen, PassState, YardCounts}
use Rattle.build_workers.specs.Working.{one_for_each}
use Rattle.build_workers.proofs.Laws.{all_parted, put_changes, put_count, put_each, put_entrusted, shares_within}
use Rattle.orig_build.proofs.builder.build.Given.{Over}
use Rattle.orig_build.proofs.builder.build.Goals.{After-deref-2}
use Rattle.orig_build.proofs.builder.build.Goals as goal

-- the list of all numbers
listed : (g : Over) (c : After-deref-2 g) → c.deref-2.result.now ≡ numbers (length (arc_value c.args.points.now))
listed g c = c.deref-2.ensures.value ∙ c.in_ok-todo.ensures ∙ ap numbers (c.len.ensures.value ∙ ap length c.deref.ensures)

pub open-requires-clause-canonical : goal.open-requires-clause-canonical
open-requires-clause-canonical g c = empty_canonical (arc_value c.args.points.now) c.in_ok-start.start c.in_ok-start.ensures.empty

pub open-requires-clause-todo_once : goal.open-requires-clause-todo_once
open-requires-clause-todo_once g c =
    subst NoneTwice (sym (listed g (goal.at.open-requires-clause-todo_once g c).After-deref-2)) (numbers_once (length (arc_value c.args.points.now)))

pub open-requires-clause-todo_in : goal.open-requires-clause-todo_in
open-requires-clause-todo_in g c = λ x i.
    (in_numbers (length (arc_value c.args.points.now)) x).0
    (subst (λ (z : List ℕ). IsIn z x) (listed g (goal.at.open-requires-clause-todo_in g c).After-deref-2) i)

pub open-requires-clause-room : goal.open-requires-clause-room
open-requires-clause-room g c =
    let count = length (arc_value c.args.points.now) in
    let all : length c.deref-2.result.now ≡ count =
    ap length (listed g (goal.at.open-requires-clause-room g c).After-deref-2) ∙ length_numbers count in
    let few = c.len.ensures.rule.few in
    let sites = ap length c.deref.ensures in
    let held = c.in_ok-start.ensures.held in
    omega arith

pub work_shares-requires-clause-parted : goal.work_shares-requires-clause-parted
work_shares-requires-clause-parted g c = λ κ within x.
    ap (λ (p : PassState). times x p.todo) c.in_ok-tree.ensures.pass
    ∙ all_parted (length (arc_value c.args.points.now)) (map (λ s. s.items) c.args.shares.now) c.deref-2.result.now c.requires
    (listed g (goal.at.work_shares-requires-clause-parted g c).After-deref-2) x

pub close-octree-requires-clause-all : goal.close-octree-requires-clause-all
close-octree-requires-clause-all g c =
    let count = length (arc_value c.args.points.now) in
    put_entrusted count c.in_ok-tree.tree one_for_each (map (λ s. s.items) c.args.shares.now) c.work_shares.new.pass c.requires c.in_ok-work_shares.ensures
    c.in_ok-tree.tree.opening.todo (c.in_ok-tree.ensures.todo ∙ listed g (goal.at.close-octree-requires-clause-all g c).After-deref-2)

pub returns-clause-tree : goal.returns-clause-tree
returns-clause-tree g c =
    let sites = c.deref-4.ensures in
    let shares = map (λ s. s.items) c.args.shares.now in
    let done = c.work_shares.new.pass.done in
    let bodies = length (arc_value c.args.points.now) in
    let each = put_each bodies c.in_ok-tree.tree one_for_each shares c.work_shares.new.pass c.requires c.in_ok-work_shares.ensures in
    subst (λ (s : List Site). IsOctreeOf s c.close-octree.result) sites
    (octree_put c.deref-4.result.now c.in_ok-tree.tree.opening done c.work_shares.new.pass.seen c.close-octree.result
    (c.in_ok-tree.ensures.points ∙ sym sites) c.close-octree.ensures.tree (c.in_ok-tree.ensures.words 0 ∙ c.in_ok-start.ensures.empty)
    (subst (λ (s : List Site). (x : ℕ) → times x done ≡ times x (numbers (length s))) (sym sites) each) c.canonical_tree.ensures.rule
    c.whole-whole.ensures.bodies c.canonical_tree.ensures.tree)

pub returns-clause-published : goal.returns-clause-published
returns-clause-published g c =
    let shares = map (λ s. s.items) c.args.shares.now in
    let bodies = length (arc_value c.args.points.now) in
    let count = put_count bodies c.in_ok-tree.tree one_for_each shares c.work_shares.new.pass c.requires c.in_ok-work_shares.ensures in
    ap (λ (y : YardCounts). y.published) c.close-octree.ensures.counts
    ∙ ap (λ (y : YardCounts). risen y.published (length c.work_shares.new.pass.done)) c.in_ok-tree.ensures.yard
    ∙ ap (risen c.args.yard.now.published) count

pub returns-clause-changes : goal.returns-clause-changes
returns-clause-changes g c =
    let shares = map (λ s. s.items) c.args.shares.now in
    let bodies = length (arc_value c.args.points.now) in
    let changes = put_changes bodies c.in_ok-tree.tree shares c.work_shares.new.pass c.requires c.in_ok-work_shares.ensures in
    ap (λ (y : YardCounts). y.changes) c.close-octree.ensures.counts
    ∙ ap (λ (y : YardCounts). risen y.changes c.work_shares.new.pass.changes) c.in_ok-tree.ensures.yard ∙ ap (risen c.args.yard.now.changes) changes

pub work_shares-requires-clause-serves : goal.work_shares-requires-clause-serves
work_shares-requires-clause-serves g c = λ κ inside.
    subst (λ (s : List Site). All (λ v. All (λ n. n < length s) v.items) c.args.shares.now) (sym c.deref-3.ensures)
    (shares_within (λ (v : Vec ℕ Global). v.items) (length (arc_value c.args.points.now)) c.args.shares.now c.requires)
