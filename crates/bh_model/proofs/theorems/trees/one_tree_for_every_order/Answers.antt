use Rattle.octant_code.specs.Points.{site_at}
use Rattle.bh_model.proofs.Same.{octree_same}
use Rattle.bh_model.proofs.theorems.trees.one_tree_for_every_order.Goals as goal

pub returns : goal.returns
returns c =
    octree_same (site_at c.args.points.now) 21 0 c.args.one.now c.args.other.now c.requires.one_distinct c.requires.other_distinct c.requires.same_bodies
