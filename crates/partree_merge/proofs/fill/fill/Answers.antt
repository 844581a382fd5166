use Rattle.std.proofs.Common.{◌-◌, ◌↔◌, ℕ, ◌∙◌, ap, arith, get_or}
use Rattle.octant_code.specs.Points.{site_at}
use Rattle.bh_model.specs.Bodies.{IsIn}
use Rattle.bh_model.specs.Trees.{octree_from, order}
use Rattle.tree_passes.proofs.Laws.{length-same}
use Rattle.tree_rule.specs.Words.{HasBody}
use Rattle.octree.specs.Stored.{tree_of}
use Rattle.octree.proofs.Laws.{whole_level}
use Rattle.partree_merge.proofs.Filled.{filled_all, filled_more, filled_none, in_order, not_before, once_in_order}
use Rattle.bh_model.proofs.Lists.{member_at}
use Rattle.octree.proofs.Laws.{under_whole}
use Rattle.partree_merge.proofs.fill.fill.Goals.{After-whole-whole}
use Rattle.partree_merge.proofs.fill.fill.Goals as goal

pub loop-i-init : goal.loop-i-init
loop-i-init c = filled_none c.args.points.now c.args.sequence.now c.args.own.now c.requires.base c.requires.empty

pub insert-requires-clause-room : goal.insert-requires-clause-room
insert-requires-clause-room c =
    let h = c.loop-i.invariant in
    omega (arith, h.used, h.held, c.requires.spare, c.loop-i-test.true, length-same c.args.sequence.now c.args.share.now c.requires.same)

pub insert-requires-clause-n_in : goal.insert-requires-clause-n_in
insert-requires-clause-n_in c =
    let n = get_or c.args.sequence.now c.loop-i.i 0 in
    c.requires.within n ((in_order c.args.sequence.now c.args.share.now c.requires.same n).0 (member_at c.args.sequence.now c.loop-i.i c.loop-i-test.true))

pub insert-requires-clause-under : goal.insert-requires-clause-under
insert-requires-clause-under c =
    under_whole (site_at c.args.points.now (get_or c.args.sequence.now c.loop-i.i 0)) c.loop-i.own.base c.loop-i.invariant.base

pub insert-requires-clause-canonical : goal.insert-requires-clause-canonical
insert-requires-clause-canonical c = c.loop-i.invariant.canonical

pub insert-requires-clause-fresh : goal.insert-requires-clause-fresh
insert-requires-clause-fresh c = λ b.
    not_before c.args.sequence.now c.loop-i.i (once_in_order c.args.sequence.now c.args.share.now c.requires.same c.requires.once) c.loop-i-test.true
    ((c.loop-i.invariant.bodies (get_or c.args.sequence.now c.loop-i.i 0)).0 b)

pub loop-i-preserved : goal.loop-i-preserved
loop-i-preserved c =
    filled_more c.args.points.now c.args.sequence.now c.args.own.now c.loop-i.own c.insert.new.self c.loop-i.i c.loop-i-test.true c.loop-i.invariant
    c.insert.ensures.canonical c.insert.ensures.inserted

pub canonical_tree-requires : goal.canonical_tree-requires
canonical_tree-requires c = record { canonical = c.loop-i.invariant.canonical }

-- all bodies of the share are in
all_in : (c : After-whole-whole) (x : ℕ) → HasBody c.loop-i.own.words x ↔ IsIn c.args.share.now x
all_in c x =
    let put = filled_all c.args.points.now c.args.sequence.now c.args.own.now c.loop-i.own c.loop-i.i c.loop-i.invariant (omega arith) x in
    let same = in_order c.args.sequence.now c.args.share.now c.requires.same x in ((λ b. same.0 (put.0 b)), (λ i. put.1 (same.1 i)))

-- and in its order
all_ordered : (c : After-whole-whole) (x : ℕ) → IsIn (order (tree_of c.loop-i.own)) x ↔ IsIn c.args.share.now x
all_ordered c x = let all = all_in c x in let e = c.whole-whole.ensures.bodies x in ((λ i. all.0 (e.0 i)), (λ i. e.1 (all.1 i)))

pub returns-clause-order : goal.returns-clause-order
returns-clause-order c = all_ordered c

pub returns-clause-bodies : goal.returns-clause-bodies
returns-clause-bodies c = all_in c

pub returns-clause-tree : goal.returns-clause-tree
returns-clause-tree c =
    let share = c.args.share.now in
    c.canonical_tree.ensures.tree share c.requires.once (all_ordered c)
    ∙ ap (λ (l : ℕ). octree_from (site_at c.args.points.now) (21 - l) l share)
    (whole_level c.loop-i.own c.canonical_tree.ensures.rule c.loop-i.invariant.base)
