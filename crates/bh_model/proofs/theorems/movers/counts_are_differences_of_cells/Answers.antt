use Rattle.octant_code.specs.Points.{site_at}
use Rattle.bh_model.proofs.Cells.{placed_of_points}
use Rattle.bh_model.proofs.Movers.{counts_are}
use Rattle.bh_model.proofs.theorems.movers.counts_are_differences_of_cells.Goals as goal

pub returns : goal.returns
returns c =
    let counts = counts_are (site_at c.args.old.now) (site_at c.args.new.now) c.args.bodies.now c.requires.distinct
    (placed_of_points c.args.old.now c.args.bodies.now c.len.ensures.rule c.requires.old_within)
    (placed_of_points c.args.new.now c.args.bodies.now c.len-2.ensures.rule c.requires.new_within) in
    record { before = counts.0; after = counts.1 }
