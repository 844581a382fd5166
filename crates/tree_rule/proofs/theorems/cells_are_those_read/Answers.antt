use Rattle.octant_code.specs.Points.{site_at}
use Rattle.bh_model.specs.Bodies.{IsIn}
use Rattle.tree_rule.specs.Words.{at_of}
use Rattle.tree_rule.proofs.Complete.{cells_complete}
use Rattle.tree_rule.proofs.theorems.cells_are_those_read.Goals as goal

pub returns : goal.returns
returns c =
    cells_complete (site_at c.args.points.now) (at_of c.args.words.now) (at_of c.args.words.now c.args.root) c.args.base (IsIn c.args.cells.now)
    (IsIn c.args.bodies.now)
    c.requires.base c.requires.stands
