use Rattle.std.proofs.Common.{◌<◌, ◌∙◌, ℕ, List, All, Vec, Global, length, map, sym, subst, ap, arith}
use Rattle.std.proofs.lemmas.List.{length-map}
use Rattle.std.specs.Arc.{arc_value}
use Rattle.octant_code.specs.Space.{Site}
use Rattle.tree_passes.specs.Counting.{times}
use Rattle.shared_tree.specs.Seen.{risen, PassState, YardCounts}
use Rattle.build_workers.specs.Working.{one_for_each}
use Rattle.build_workers.proofs.Laws.{parts_within, put_ones}
use Rattle.local_build.proofs.Inserting.{none_past, put_all, put_many, with_bodies}
use Rattle.local_build.proofs.insertion.insert_shares.Goals as goal

pub open-requires-clause-todo_once : goal.open-requires-clause-todo_once
open-requires-clause-todo_once g c = c.requires.bodies.once

pub open-requires-clause-todo_in : goal.open-requires-clause-todo_in
open-requires-clause-todo_in g c = c.requires.bodies.points

pub open-requires-clause-todo_fresh : goal.open-requires-clause-todo_fresh
open-requires-clause-todo_fresh g c = c.requires.bodies.fresh

pub work_shares-requires-clause-count : goal.work_shares-requires-clause-count
work_shares-requires-clause-count g c = λ κ within.
    let count = length-map c.args.shares.now (λ (s : Vec ℕ Global). s.items) in
    (omega (arith, count, c.requires.shares.some), omega (arith, count, c.requires.shares.few))

pub work_shares-requires-clause-parted : goal.work_shares-requires-clause-parted
work_shares-requires-clause-parted g c = λ κ within x.
    ap (λ (p : PassState). times x p.todo) c.in_ok-tree.ensures.pass ∙ c.requires.shares.parted x

pub work_shares-requires-clause-serves : goal.work_shares-requires-clause-serves
work_shares-requires-clause-serves g c = λ κ inside.
    let count : ℕ = length (arc_value c.args.points.now) in
    subst (λ (s : List Site). All (λ v. All (λ n. n < length s) v.items) c.args.shares.now) (sym c.deref.ensures)
    (parts_within (λ (v : Vec ℕ Global). v.items) count c.args.shares.now
    (none_past c.args.bodies.now (map (λ s. s.items) c.args.shares.now) c.requires.shares count c.requires.bodies.points))

pub close-requires-clause-all : goal.close-requires-clause-all
close-requires-clause-all g c =
    put_all c.args.bodies.now (map (λ s. s.items) c.args.shares.now) c.requires.shares c.in_ok-tree.tree one_for_each c.work_shares.new.pass
    c.in_ok-work_shares.ensures c.in_ok-tree.tree.opening.todo c.in_ok-tree.ensures.todo

pub returns-clause-tree : goal.returns-clause-tree
returns-clause-tree g c =
    with_bodies c.args.bodies.now (map (λ s. s.items) c.args.shares.now) c.requires.shares c.in_ok-tree.tree one_for_each c.work_shares.new.pass
    c.in_ok-work_shares.ensures (arc_value c.args.points.now) c.in_ok-tree.tree.opening c.work_shares.new.pass.seen c.args.octree c.close.result
    c.in_ok-tree.ensures.points c.in_ok-tree.ensures.words c.close.ensures.tree

pub returns-clause-published : goal.returns-clause-published
returns-clause-published g c =
    let count = put_many c.args.bodies.now (map (λ s. s.items) c.args.shares.now) c.requires.shares c.in_ok-tree.tree one_for_each
    c.work_shares.new.pass c.in_ok-work_shares.ensures in
    ap (λ (y : YardCounts). y.published) c.close.ensures.counts
    ∙ ap (λ (y : YardCounts). risen y.published (length c.work_shares.new.pass.done)) c.in_ok-tree.ensures.yard
    ∙ ap (risen c.args.yard.now.published) count

pub returns-clause-changes : goal.returns-clause-changes
returns-clause-changes g c =
    let shares = map (λ s. s.items) c.args.shares.now in
    let count = put_many c.args.bodies.now shares c.requires.shares c.in_ok-tree.tree one_for_each c.work_shares.new.pass c.in_ok-work_shares.ensures in
    let changes = put_ones c.in_ok-tree.tree shares c.work_shares.new.pass c.in_ok-work_shares.ensures ∙ count in
    ap (λ (y : YardCounts). y.changes) c.close.ensures.counts
    ∙ ap (λ (y : YardCounts). risen y.changes c.work_shares.new.pass.changes) c.in_ok-tree.ensures.yard ∙ ap (risen c.args.yard.now.changes) changes
