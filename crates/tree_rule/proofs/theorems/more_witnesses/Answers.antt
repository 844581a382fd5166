use Rattle.octant_code.specs.Points.{site_at}
use Rattle.bh_model.specs.Bodies.{IsIn}
use Rattle.tree_rule.specs.Words.{at_of}
use Rattle.tree_rule.proofs.Published.{lists_changed}
use Rattle.tree_rule.proofs.theorems.more_witnesses.Goals as goal

pub returns : goal.returns
returns c =
    let at = at_of c.args.words.now in
    lists_changed (site_at c.args.points.now) at (at c.args.root) c.args.base (IsIn c.args.cells.now) (IsIn c.args.bodies.now) (IsIn c.args.witnesses.now)
    c.args.cells.now c.args.bodies.now c.args.all.now (λ d. ((λ p. p), (λ p. p))) (λ n. ((λ p. p), (λ p. p))) c.requires.more c.requires.stands
