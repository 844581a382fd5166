use Rattle.std.proofs.Common.{slice_set}
use Rattle.octant_code.specs.Points.{site_at}
use Rattle.tree_rule.specs.Words.{at_of, cell_word}
use Rattle.tree_rule.proofs.Names.{word_of_body}
use Rattle.tree_rule.proofs.Published.{cell_put_over, changed_at}
use Rattle.tree_rule.proofs.theorems.cell_over_body.Goals as goal

pub returns : goal.returns
returns c =
    let at = at_of c.args.words.now in
    let w = cell_word c.args.c in
    cell_put_over (site_at c.args.points.now) at
    (at_of (slice_set c.args.words.now c.args.place w)) c.args.root c.args.base c.args.cells.now c.args.key c.args.place c.requires.published
    c.args.others.now c.args.bodies.now c.args.new_cells.now c.args.new_bodies.now c.args.x w c.requires.stands
    (word_of_body (at c.args.place) c.args.x c.requires.named) c.requires.part
    (changed_at c.args.words.now c.args.place w c.requires.inside)
