use Rattle.std.proofs.Common.{arith, ◌*◌, ◌≤◌, List, ℕ, ap, length, subst, sym, take, ◌≡◌, ◌∙◌}
use Rattle.bh_model.specs.Trees.{cell_count, order}
use Rattle.octree.specs.Stored.{tree_of}
use Rattle.tree_rule.specs.declared.words.TheConstants.{CELLS_OF_ONE}
use Rattle.shared_tree.specs.Copying.{bodies_under}
use Rattle.shared_tree.specs.Merging.{AreBlocks, IsMerged}
use Rattle.shared_tree.specs.Seen.{risen}
use Rattle.shared_tree.proofs.MergeRoots.{root_in}
use Rattle.shared_tree.proofs.merge.merge_part.Given.{Over}
use Rattle.shared_tree.proofs.merge.merge_part.Goals.{After-whole}
use Rattle.shared_tree.proofs.merge.merge_part.Goals as goal

-- the bodies of the whole octree as a subtree
same : (g : Over) (c : After-whole g) → bodies_under c.whole.result ≡ order (tree_of c.args.part.now)
same g c = ap order c.whole.ensures.tree

pub merge_below-requires-clause-at : goal.merge_below-requires-clause-at
merge_below-requires-clause-at g c =
    let r = c.requires in
    let w = c.whole.ensures in
    let t = c.canonical_tree.ensures in
    root_in _ _ _ _ _ w.tree t.rule r.base r.canonical t.tree w.bodies c.len-rule.ensures.rule r.points r.ready.long r.some r.few r.no_lock r.todo

pub merge_below-requires-clause-stock : goal.merge_below-requires-clause-stock
merge_below-requires-clause-stock g c =
    subst (λ (l : List ℕ). CELLS_OF_ONE * length l ≤ length c.args.spare.now)
    (sym (same g (goal.at.merge_below-requires-clause-stock g c).After-whole)) c.requires.stock

pub returns-clause-within : goal.returns-clause-within
returns-clause-within g c = c.merge_below.ensures.merged.within

pub returns-clause-few : goal.returns-clause-few
returns-clause-few g c = let f = c.merge_below.ensures.merged.few in omega (arith, ap length (same g (goal.at.returns-clause-few g c).After-whole))

pub returns-clause-merged : goal.returns-clause-merged
returns-clause-merged g c =
    subst (λ (l : List ℕ). IsMerged c.args.pass.now.me.0 c.merge_below.new.pass.me.0 l (take c.merge_below.result.used c.args.spare.now))
    (same g (goal.at.returns-clause-merged g c).After-whole) c.merge_below.ensures.merged.merged

pub returns-clause-bodies : goal.returns-clause-bodies
returns-clause-bodies g c =
    c.merge_below.ensures.bodies ∙ ap (λ (l : List ℕ). risen 0 (length l)) (same g (goal.at.returns-clause-bodies g c).After-whole)

pub returns-clause-changes : goal.returns-clause-changes
returns-clause-changes g c = c.merge_below.ensures.merged.count

pub returns-clause-most : goal.returns-clause-most
returns-clause-most g c = let m = c.merge_below.ensures.merged.most in omega (arith, ap length (same g (goal.at.returns-clause-most g c).After-whole))

pub returns-clause-some_change : goal.returns-clause-some_change
returns-clause-some_change g c = λ l.
    let e = ap length (same g (goal.at.returns-clause-some_change g c).After-whole) in c.merge_below.ensures.merged.some (omega arith)

pub returns-clause-blocks : goal.returns-clause-blocks
returns-clause-blocks g c =
    subst (λ (l : List ℕ). AreBlocks c.args.pass.now.me.0 c.args.points.now 1 0 l c.merge_below.result.changes)
    (same g (goal.at.returns-clause-blocks g c).After-whole) c.merge_below.ensures.merged.blocks

pub returns-clause-steps : goal.returns-clause-steps
returns-clause-steps g c =
    let e = c.merge_below.ensures.steps in
    omega (arith, ap length (same g (goal.at.returns-clause-steps g c).After-whole), ap cell_count c.whole.ensures.tree)
