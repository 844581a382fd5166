use Rattle.std.proofs.Common.{slice_index}
use Rattle.octant_code.specs.Points.{site_at}
use Rattle.tree_rule.specs.Words.{at_of}
use Rattle.tree_rule.proofs.Exact.{exact_of_stands, stands_of_exact}
use Rattle.tree_rule.proofs.Published.{renumbered_lists}
use Rattle.tree_rule.proofs.theorems.exactly_under_other_numbers.Goals as goal

pub returns : goal.returns
returns c =
    let site = site_at c.args.points.now in
    let at = at_of c.args.words.now in
    let after = at_of c.args.after.now in
    exact_of_stands site after c.args.after_root c.args.base c.args.after_cells.now c.args.after_others.now c.args.bodies.now
    (renumbered_lists site at after (at c.args.root)
    (after c.args.after_root) c.args.base c.args.cells.now c.args.after_cells.now c.args.bodies.now c.args.bodies.now (slice_index c.args.numbers.now)
    (stands_of_exact site at c.args.root c.args.base c.args.cells.now c.args.others.now c.args.bodies.now c.requires.stands) c.requires.renumbered
    c.requires.root c.requires.cells) c.requires.once
