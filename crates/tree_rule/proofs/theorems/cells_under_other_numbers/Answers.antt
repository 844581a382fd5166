use Rattle.std.proofs.Common.{slice_index}
use Rattle.octant_code.specs.Points.{site_at}
use Rattle.tree_rule.specs.Words.{at_of}
use Rattle.tree_rule.proofs.Published.{renumbered_lists}
use Rattle.tree_rule.proofs.theorems.cells_under_other_numbers.Goals as goal

pub returns : goal.returns
returns c =
    renumbered_lists (site_at c.args.points.now) (at_of c.args.words.now) (at_of c.args.after.now) (at_of c.args.words.now c.args.root)
    (at_of c.args.after.now c.args.after_root) c.args.base
    c.args.cells.now c.args.after_cells.now c.args.bodies.now c.args.witnesses.now
    (slice_index c.args.numbers.now) c.requires.stands c.requires.renumbered c.requires.root c.requires.cells
