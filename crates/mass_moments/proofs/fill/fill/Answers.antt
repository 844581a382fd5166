use Rattle.std.proofs.Common.{subst}
use Rattle.bh_model.specs.Zones.{cost_at}
use Rattle.octree.specs.Spot.{Spot}
use Rattle.mass_moments.specs.Filling.{AreFilled}
use Rattle.mass_moments.specs.Kept.{matter_of}
use Rattle.mass_moments.proofs.fill.fill.Goals as goal

pub returns-in-Cell-clause-filled : goal.returns-in-Cell-clause-filled
returns-in-Cell-clause-filled c =
    subst (λ (s : Spot). AreFilled (matter_of c.args.bodies.now) (cost_at c.args.costs.now) s c.args.list.now c.fill_cell-whole.new.list)
    c.in-Cell.ensures.same c.fill_cell-whole.ensures.filled
