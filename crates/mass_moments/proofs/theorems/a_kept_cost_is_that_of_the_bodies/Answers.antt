use Rattle.std.proofs.Common.{◌∙◌}
use Rattle.bh_model.proofs.Totals.{total-order}
use Rattle.bh_model.specs.Zones.{cost_at}
use Rattle.octree.specs.Spot.{tree_below}
use Rattle.mass_moments.proofs.theorems.a_kept_cost_is_that_of_the_bodies.Goals as goal

pub returns : goal.returns
returns c = c.requires.moments.cost_is c.args.c.0 c.requires.reachable ∙ total-order (cost_at c.args.costs.now) (tree_below c.args.tree.now c.args.c.0)
