use Rattle.std.proofs.Common.{◌-◌, ◌∙◌, ap}
use Rattle.octant_code.specs.Points.{site_at}
use Rattle.bh_model.specs.Trees.{octree_from}
use Rattle.octree.proofs.Laws.{whole_level}
use Rattle.update_build.proofs.builder.count_cells.Goals as goal

pub returns-clause-tree : goal.returns-clause-tree
returns-clause-tree c = λ bodies once members.
    let named = c.whole-whole.ensures.bodies in
    c.canonical_tree.ensures.tree bodies once (λ n. (
      (λ i. (members n).0 ((named n).0 i)),
      (λ i. (named n).1 ((members n).1 i)),
    ))
    ∙ ap (λ l. octree_from (site_at c.args.points.now) (21 - l) l bodies) (whole_level c.args.octree.now c.canonical_tree.ensures.rule c.requires.base)
