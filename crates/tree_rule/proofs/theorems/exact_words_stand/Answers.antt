use Rattle.octant_code.specs.Points.{site_at}
use Rattle.tree_rule.specs.Words.{at_of}
use Rattle.tree_rule.proofs.Exact.{exact_stands}
use Rattle.tree_rule.proofs.theorems.exact_words_stand.Goals as goal

pub returns : goal.returns
returns c = exact_stands (site_at c.args.points.now) (at_of c.args.words.now) c.args.root c.args.base c.args.cells.now c.args.others.now c.args.bodies.now
