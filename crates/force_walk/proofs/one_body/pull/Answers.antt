use Rattle.std.proofs.Common.{◌∙◌, length, ap, sym, subst}
use Rattle.bh_model.specs.Pulls.{pull_from}
use Rattle.bh_model.specs.Trees.{Tree}
use Rattle.bh_model.specs.declared.pull.Pull.{Pull}
use Rattle.mass_moments.specs.Kept.{matter_of}
use Rattle.force_walk.specs.Cubes.{IsTreeOfCube}
use Rattle.force_walk.specs.Walks.{IsPullAmong}
use Rattle.force_walk.proofs.Scenes.{scene_cube, scene_small}
use Rattle.force_walk.proofs.one_body.pull.Goals as goal

pub pull_below-requires-clause-cube : goal.pull_below-requires-clause-cube
pull_below-requires-clause-cube c =
    subst (λ (t : Tree). IsTreeOfCube (matter_of c.args.bodies.now) (length c.args.bodies.now) 21 t) (sym c.whole.ensures.tree)
    (scene_cube c.args.bodies.now c.args.tree.now (record { rule = c.len-rule.ensures.rule; octree = c.requires.octree }))

pub pull_below-requires-clause-moments : goal.pull_below-requires-clause-moments
pull_below-requires-clause-moments c = rw c.whole.ensures.octree c.requires.moments

pub returns-clause-value : goal.returns-clause-value
returns-clause-value c = c.pull_below.ensures ∙ ap (pull_from c.args.law.now (matter_of c.args.bodies.now) c.args.n 21 1) c.whole.ensures.tree

pub returns-clause-small : goal.returns-clause-small
returns-clause-small c =
    let P : Pull → Type 0 = λ p. IsPullAmong (length c.args.bodies.now) p in
    subst P (sym (returns-clause-value c))
    (scene_small c.args.law.now c.args.bodies.now c.args.tree.now c.args.n c.least_distances-least.ensures.rule
    (record { rule = c.len-rule.ensures.rule; octree = c.requires.octree }) c.requires.body)
