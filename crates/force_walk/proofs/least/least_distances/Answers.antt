use Rattle.std.proofs.Common.{◌≢◌, ◌<◌, length, arith, below_more, ◌∙◌, get_or-set_other, get_or-set_same}
use Rattle.std.proofs.Math.ListN.{length-set}
use Rattle.force_walk.proofs.least.least_distances.Goals as goal

pub loop-down-preserved : goal.loop-down-preserved
loop-down-preserved c = record {
  long = length-set _ _ _ ∙ c.loop-down.invariant.long;
  so_far = below_more _ _
      (λ down h. let other : down ≢ c.loop-down.down = omega arith in rw get_or-set_other (c.loop-down.invariant.so_far down h))
      (let within : c.loop-down.down < length c.loop-down.list = omega (arith, c.loop-down.invariant.long) in rw get_or-set_same c.least_distance.ensures);
}
