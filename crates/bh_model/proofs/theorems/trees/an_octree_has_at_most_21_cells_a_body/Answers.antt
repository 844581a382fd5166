use Rattle.octant_code.specs.Points.{site_at}
use Rattle.bh_model.proofs.CellCounts.{cells_by_levels}
use Rattle.bh_model.proofs.theorems.trees.an_octree_has_at_most_21_cells_a_body.Goals as goal

pub returns : goal.returns
returns c = cells_by_levels (site_at c.args.points.now) 21 0 c.args.bodies.now
