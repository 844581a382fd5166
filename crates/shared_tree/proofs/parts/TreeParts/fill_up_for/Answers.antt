use Rattle.std.proofs.Common.{◌≡◌, ◌≤◌, ◌∙◌, ℕ, List, length, ap, arith}
use Rattle.bh_model.specs.Trees.{order}
use Rattle.octree.specs.Stored.{tree_of}
use Rattle.shared_tree.specs.Seen.{risen}
use Rattle.shared_tree.proofs.MergeRests.{among_todo}
use Rattle.shared_tree.proofs.MergeRoots.{whole_once}
use Rattle.shared_tree.proofs.Rests.{part_few}
use Rattle.shared_tree.proofs.parts.TreeParts.fill_up_for.Goals.{After-count_bodies-bodies}
use Rattle.shared_tree.proofs.parts.TreeParts.fill_up_for.Goals as goal

-- the part has no more bodies than the pass is to put in
few : (c : After-count_bodies-bodies) → length (order (tree_of c.args.part.now)) ≤ length c.args.pass.now.view.todo
few c =
    let t = c.canonical_tree.ensures in
    let v = c.args.pass.now.view in
    let bodies = order (tree_of c.args.part.now) in
    part_few v bodies
    (among_todo bodies v.todo (whole_once _ _ t.rule c.requires.base t.tree) (λ x i. c.requires.todo x ((c.whole.ensures.bodies x).0 i)))

-- and they are counted
counted : (c : After-count_bodies-bodies) → c.count_bodies-bodies.result ≡ length (order (tree_of c.args.part.now))
counted c =
    let e : c.count_bodies-bodies.result ≡ risen 0 (length (order (tree_of c.args.part.now))) =
    c.count_bodies-bodies.ensures ∙ ap (λ (l : List ℕ). risen 0 (length l)) (ap order c.whole.ensures.tree) in
    omega (arith, e, few c, c.todo_rule.ensures.few)

pub fill_up-requires-clause-bodies : goal.fill_up-requires-clause-bodies
fill_up-requires-clause-bodies c =
    let d = (goal.at.fill_up-requires-clause-bodies c).After-count_bodies-bodies in omega (arith, few d, counted d)

pub returns-clause-enough : goal.returns-clause-enough
returns-clause-enough c =
    omega (arith, c.fill_up.ensures.enough, counted (goal.at.returns-clause-enough c).After-count_bodies-bodies)
