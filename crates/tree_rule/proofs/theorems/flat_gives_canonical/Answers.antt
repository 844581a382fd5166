use Rattle.octant_code.specs.Points.{site_at}
use Rattle.bh_model.specs.Bodies.{IsIn}
use Rattle.tree_rule.specs.Words.{at_of}
use Rattle.tree_rule.proofs.Canonical.{flat_gives_canonical}
use Rattle.tree_rule.proofs.theorems.flat_gives_canonical.Goals as goal

pub returns : goal.returns
returns c = flat_gives_canonical (site_at c.args.points.now) (at_of c.args.words.now)
    (IsIn c.args.cells.now) c.args.bodies.now c.requires.stands c.requires.distinct
