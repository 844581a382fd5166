use Rattle.std.proofs.Common.{arith}
use Rattle.std.proofs.lemmas.List.Sums.{sum_by_more_le}
use Rattle.mass_moments.specs.Kept.{cost_at}
use Rattle.frame_core.proofs.sums.zone_cost.Goals as goal

pub overflow_add-cost : goal.overflow_add-cost
overflow_add-cost c =
    let more = sum_by_more_le (cost_at c.args.costs.now) c.args.zone.now c.loop-n.n-index 0 c.loop-n-test.true in
    search (arith, more, c.loop-n.invariant, c.from-cost.ensures, c.requires.fits)
