use Rattle.std.proofs.Common.{◌≡◌, List, sym, ◌∙◌, ap, arith}
use Rattle.octant_code.specs.Points.{site_at}
use Rattle.octant_code.specs.Space.{Site}
use Rattle.bh_model.specs.Blocks.{blocks}
use Rattle.bh_model.specs.Trees.{cell_count, order}
use Rattle.octree.specs.Stored.{tree_of}
use Rattle.tree_passes.specs.Opening.{all_bodies}
use Rattle.shared_tree.specs.Merging.{others_among}
use Rattle.partree_merge.proofs.Merges.{blocks_of_order, order_of_share, IsOrderOf}
use Rattle.partree_merge.proofs.worker.work_at.Given.{Over}
use Rattle.partree_merge.proofs.worker.work_at.Goals.{After-merge}
use Rattle.partree_merge.proofs.worker.work_at.Goals as goal

-- the bodies of the worker's own octree are those of the share
ordered : (g : Over) (c : After-merge g) → IsOrderOf c.args.share.now (order (tree_of c.fill.new.own))
ordered g c =
    order_of_share (site_at c.args.points.now) c.args.share.now (tree_of c.fill.new.own) c.requires.distinct c.fill.ensures.tree c.fill.ensures.order

pub returns-clause-todo : goal.returns-clause-todo
returns-clause-todo g c = λ x.
    let o = (ordered g (goal.at.returns-clause-todo g c).After-merge).times_same x in
    let e = c.merge.ensures.todo x in
    omega arith

pub returns-clause-done : goal.returns-clause-done
returns-clause-done g c = λ x.
    let o = (ordered g (goal.at.returns-clause-done g c).After-merge).times_same x in
    let e = c.merge.ensures.done x in
    omega arith

pub returns-clause-most : goal.returns-clause-most
returns-clause-most g c =
    let share = c.args.share.now in
    let bodies = all_bodies c.args.tree.now.opening in
    let own = order (tree_of c.fill.new.own) in
    let same : blocks (site_at c.args.tree.now.opening.sites) own (others_among bodies own) ≡ blocks (site_at c.args.points.now) share
    (others_among bodies share) =
    ap (λ (s : List Site). blocks (site_at s) own (others_among bodies own)) (sym c.requires.points)
    ∙ blocks_of_order (site_at c.args.points.now) bodies share own (ordered g (goal.at.returns-clause-most g c).After-merge) in
    omega (arith, c.merge.ensures.most, same)

pub returns-clause-some : goal.returns-clause-some
returns-clause-some g c = λ some.
    let o = (ordered g (goal.at.returns-clause-some g c).After-merge).length_same in
    c.merge.ensures.some (omega arith)

pub returns-clause-once : goal.returns-clause-once
returns-clause-once g c = λ all some.
    let o = (ordered g (goal.at.returns-clause-once g c).After-merge).length_same in
    c.merge.ensures.once all (omega arith)

pub returns-clause-steps : goal.returns-clause-steps
returns-clause-steps g c =
    let o = (ordered g (goal.at.returns-clause-steps g c).After-merge).length_same in
    let cells = ap cell_count c.fill.ensures.tree in
    omega (arith, c.merge.ensures.steps, o, cells)
