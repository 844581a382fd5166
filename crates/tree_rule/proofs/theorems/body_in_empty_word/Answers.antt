use Rattle.std.proofs.Common.{slice_set}
use Rattle.octant_code.specs.Points.{site_at}
use Rattle.tree_rule.specs.Words.{at_of, body_word}
use Rattle.tree_rule.proofs.Names.{word_of_nothing}
use Rattle.tree_rule.proofs.Published.{body_put, changed_at}
use Rattle.tree_rule.proofs.theorems.body_in_empty_word.Goals as goal

pub returns : goal.returns
returns c =
    let at = at_of c.args.words.now in
    let w = body_word c.args.n in
    body_put (site_at c.args.points.now) at
    (at_of (slice_set c.args.words.now c.args.place w)) c.args.root c.args.base c.args.cells.now c.args.key c.args.place c.requires.published
    c.args.others.now c.args.bodies.now c.args.n c.requires.stands (word_of_nothing (at c.args.place) c.requires.empty) c.requires.under
    (changed_at c.args.words.now c.args.place w c.requires.inside)
