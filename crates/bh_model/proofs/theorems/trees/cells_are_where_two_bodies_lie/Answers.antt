use Rattle.bh_model.proofs.Cells.{cell_at, placed_of_points}
use Rattle.octant_code.specs.Points.{site_at}
use Rattle.bh_model.proofs.theorems.trees.cells_are_where_two_bodies_lie.Goals as goal

pub returns : goal.returns
returns c =
    cell_at (site_at c.args.points.now) c.args.bodies.now c.args.key c.requires.distinct
    (placed_of_points c.args.points.now c.args.bodies.now c.len.ensures.rule c.requires.within)
