use Rattle.std.proofs.Common.{sym, subst}
use Rattle.bh_model.specs.Bodies.{NoneTwice}
use Rattle.bh_model.proofs.Lists.{numbers_once}
use Rattle.library_rows.proofs.regions.first_cells.Goals as goal

pub of-requires : goal.of-requires
of-requires c = subst NoneTwice (sym c.in_ok-numbers_below.ensures) (numbers_once c.args.count)
