use Rattle.std.proofs.Common.{get_or}
use Rattle.octant_code.specs.Points.{site_at}
use Rattle.bh_model.specs.Trees.{octree}
use Rattle.bh_model.proofs.Totals.{total-order}
use Rattle.bh_model.proofs.theorems.zones.a_cells_cost_is_that_of_its_bodies.Goals as goal

pub returns : goal.returns
returns c = total-order (λ m. get_or c.args.costs.now m 0) (octree (site_at c.args.points.now) c.args.bodies.now)
