use Rattle.std.proofs.Common.{◌≡◌, ℕ, List, length, map, All, sym, subst, ap, arith, ◌∙◌}
use Rattle.std.specs.Arc.{arc_value}
use Rattle.octant_code.specs.Space.{Site}
use Rattle.bh_model.specs.Bodies.{IsIn, NoneTwice, numbers}
use Rattle.bh_model.proofs.Lists.{in_numbers, numbers_once}
use Rattle.octree.specs.Stored.{IsOctreeOf}
use Rattle.tree_passes.specs.Counting.{times}
use Rattle.octree.proofs.Laws.{empty_canonical}
use Rattle.shared_tree.proofs.Laws.{octree_put}
use Rattle.shared_tree.specs.Seen.{risen, PassState, YardCounts}
use Rattle.octant_code.specs.Points.{site_at}
use Rattle.partree_merge.specs.Merging.{CanMerge, MayPublish}
use Rattle.build_workers.proofs.Laws.{all_parted, put_count, put_each, put_entrusted}
use Rattle.build_workers.specs.Working.{IsSumFor}
use Rattle.partree_merge.proofs.Holders.{blocks_one, sum_within, IsWithinBlocks}
use Rattle.partree_merge.proofs.Opened.{can_merge_all}
use Rattle.partree_merge.proofs.builder.build.Given.{Over}
use Rattle.partree_merge.proofs.builder.build.Goals.{After-close-octree, After-deref-2, In_ok-work_shares}
use Rattle.partree_merge.proofs.builder.build.Goals as goal

-- the list of all numbers
listed : (g : Over) (c : After-deref-2 g) → c.deref-2.result.now ≡ numbers (length (arc_value c.args.points.now))
listed g c = c.deref-2.ensures.value ∙ c.in_ok-todo.ensures ∙ ap numbers (c.len.ensures.value ∙ ap length c.deref.ensures)

pub open-requires-clause-canonical : goal.open-requires-clause-canonical
open-requires-clause-canonical g c = empty_canonical (arc_value c.args.points.now) c.in_ok-start.start c.in_ok-start.ensures.empty

pub open-requires-clause-todo_once : goal.open-requires-clause-todo_once
open-requires-clause-todo_once g c =
    subst NoneTwice (sym (listed g (goal.at.open-requires-clause-todo_once g c).After-deref-2)) (numbers_once (length (arc_value c.args.points.now)))

pub open-requires-clause-todo_in : goal.open-requires-clause-todo_in
open-requires-clause-todo_in g c = λ x i.
    (in_numbers (length (arc_value c.args.points.now)) x).0
    (subst (λ (z : List ℕ). IsIn z x) (listed g (goal.at.open-requires-clause-todo_in g c).After-deref-2) i)

pub work_shares-requires-clause-parted : goal.work_shares-requires-clause-parted
work_shares-requires-clause-parted g c = λ κ within x.
    ap (λ (p : PassState). times x p.todo) c.in_ok-tree.ensures.pass
    ∙ all_parted (length (arc_value c.args.points.now)) (map (λ s. s.items) c.args.shares.now) c.deref-2.result.now c.requires
    (listed g (goal.at.work_shares-requires-clause-parted g c).After-deref-2) x

pub close-octree-requires-clause-all : goal.close-octree-requires-clause-all
close-octree-requires-clause-all g c =
    let count = length (arc_value c.args.points.now) in
    put_entrusted count c.in_ok-tree.tree (MayPublish c.deref-3.result.now) (map (λ s. s.items) c.args.shares.now) c.work_shares.new.pass c.requires
    c.in_ok-work_shares.ensures
    c.in_ok-tree.tree.opening.todo (c.in_ok-tree.ensures.todo ∙ listed g (goal.at.close-octree-requires-clause-all g c).After-deref-2)

pub returns-clause-tree : goal.returns-clause-tree
returns-clause-tree g c =
    let sites = c.deref-4.ensures in
    let shares = map (λ s. s.items) c.args.shares.now in
    let done = c.work_shares.new.pass.done in
    let bodies = length (arc_value c.args.points.now) in
    let each = put_each bodies c.in_ok-tree.tree (MayPublish c.deref-3.result.now) shares c.work_shares.new.pass c.requires c.in_ok-work_shares.ensures in
    subst (λ (s : List Site). IsOctreeOf s c.close-octree.result) sites
    (octree_put c.deref-4.result.now c.in_ok-tree.tree.opening done c.work_shares.new.pass.seen c.close-octree.result
    (c.in_ok-tree.ensures.points ∙ sym sites) c.close-octree.ensures.tree (c.in_ok-tree.ensures.words 0 ∙ c.in_ok-start.ensures.empty)
    (subst (λ (s : List Site). (x : ℕ) → times x done ≡ times x (numbers (length s))) (sym sites) each) c.canonical_tree.ensures.rule
    c.whole-whole.ensures.bodies c.canonical_tree.ensures.tree)

pub returns-clause-published : goal.returns-clause-published
returns-clause-published g c =
    let shares = map (λ s. s.items) c.args.shares.now in
    let bodies = length (arc_value c.args.points.now) in
    let count = put_count bodies c.in_ok-tree.tree (MayPublish c.deref-3.result.now) shares c.work_shares.new.pass c.requires c.in_ok-work_shares.ensures in
    ap (λ (y : YardCounts). y.published) c.close-octree.ensures.counts
    ∙ ap (λ (y : YardCounts). risen y.published (length c.work_shares.new.pass.done)) c.in_ok-tree.ensures.yard
    ∙ ap (risen c.args.yard.now.published) count

-- how often the workers published
within : (g : Over) (c : In_ok-work_shares g) → IsWithinBlocks (arc_value c.args.points.now) (map (λ s. s.items) c.args.shares.now)
    c.work_shares.new.pass.changes
within g c =
    let shares = map (λ s. s.items) c.args.shares.now in
    let sum = c.work_shares.new.pass.changes in
    sum_within (arc_value c.args.points.now) shares sum
    (subst (λ (s : List Site). IsSumFor (MayPublish s) shares sum) c.deref-3.ensures c.in_ok-work_shares.ensures.changes)

-- what the yard counts
counted : (g : Over) (c : After-close-octree g) → c.close-octree.new.self.changes ≡ risen c.args.yard.now.changes c.work_shares.new.pass.changes
counted g c =
    ap (λ (y : YardCounts). y.changes) c.close-octree.ensures.counts
    ∙ ap (λ (y : YardCounts). risen y.changes c.work_shares.new.pass.changes) c.in_ok-tree.ensures.yard

pub returns-clause-changes : goal.returns-clause-changes
returns-clause-changes g c =
    let w = within g (goal.at.returns-clause-changes g c).In_ok-work_shares in
    (c.work_shares.new.pass.changes, w.some, w.few, counted g (goal.at.returns-clause-changes g c).After-close-octree)

pub returns-clause-one : goal.returns-clause-one
returns-clause-one g c = λ one.
    let sites = arc_value c.args.points.now in
    let shares = map (λ s. s.items) c.args.shares.now in
    let w = within g (goal.at.returns-clause-one g c).In_ok-work_shares in
    let block = blocks_one (site_at sites) (length sites) shares c.requires.once one in
    let once : c.work_shares.new.pass.changes ≡ 1 = omega (arith, w.some, w.few, one, block) in
    counted g (goal.at.returns-clause-one g c).After-close-octree ∙ ap (risen c.args.yard.now.changes) once

pub work_shares-requires-clause-serves : goal.work_shares-requires-clause-serves
work_shares-requires-clause-serves g c = λ κ inside.
    subst (λ (s : List Site). All (λ v. CanMerge s c.in_ok-tree.tree v.items) c.args.shares.now) (sym c.deref-3.ensures)
    (can_merge_all (arc_value c.args.points.now) c.in_ok-tree.tree c.args.shares.now c.requires c.in_ok-tree.ensures.points
    (c.in_ok-tree.ensures.words 0 ∙ c.in_ok-start.ensures.empty)
    (c.in_ok-tree.ensures.todo ∙ listed g (goal.at.work_shares-requires-clause-serves g c).After-deref-2))
