use Rattle.octant_code.specs.Points.{site_at}
use Rattle.bh_model.specs.Bodies.{IsIn}
use Rattle.tree_rule.specs.Words.{at_of}
use Rattle.tree_rule.proofs.Complete.{exact_of_stands_for}
use Rattle.tree_rule.proofs.theorems.words_name_what_is_read.Goals as goal

pub returns : goal.returns
returns c =
    exact_of_stands_for (site_at c.args.points.now) (at_of c.args.words.now) c.args.root c.args.base (IsIn c.args.cells.now)
    (IsIn c.args.bodies.now) c.args.others.now
    c.requires.base c.requires.stands c.requires.once c.requires.apart
