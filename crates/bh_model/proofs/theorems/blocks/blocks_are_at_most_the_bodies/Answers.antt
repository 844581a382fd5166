use Rattle.octant_code.specs.Points.{site_at}
use Rattle.bh_model.proofs.Blocks.{blocks_few}
use Rattle.bh_model.proofs.theorems.blocks.blocks_are_at_most_the_bodies.Goals as goal

pub returns : goal.returns
returns c = blocks_few (site_at c.args.points.now) 21 0 c.args.bodies.now c.args.others.now
