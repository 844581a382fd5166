use Rattle.std.proofs.Common.{ap, ◌∙◌}
use Rattle.bh_model.specs.Zones.{cost_of}
use Rattle.mass_moments.specs.Kept.{cost_at}
use Rattle.frame_core.proofs.Costs.{greatest_step}
use Rattle.frame_core.proofs.sums.greatest_cost.Goals as goal

pub loop-zone-preserved : goal.loop-zone-preserved
loop-zone-preserved c =
    let cost = cost_at c.args.costs.now in
    greatest_step (λ z. cost_of cost z.items) c.args.zones.now c.loop-zone.zone-index c.zone-item.result c.loop-zone.most c.zone_cost.result c.max-most.result
    c.loop-zone-test.true c.zone-item.is
    c.loop-zone.invariant (c.zone_cost.ensures ∙ ap (cost_of cost) c.deref.ensures.value) c.max-most.ensures
