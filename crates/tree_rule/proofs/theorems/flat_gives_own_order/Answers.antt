use Rattle.octant_code.specs.Points.{site_at}
use Rattle.bh_model.specs.Bodies.{IsIn}
use Rattle.tree_rule.specs.Words.{at_of}
use Rattle.tree_rule.proofs.Walk.{gives_own_order}
use Rattle.tree_rule.proofs.theorems.flat_gives_own_order.Goals as goal

pub returns : goal.returns
returns c = gives_own_order (site_at c.args.points.now) (at_of c.args.words.now) (IsIn c.args.cells.now) (IsIn c.args.bodies.now) c.requires
