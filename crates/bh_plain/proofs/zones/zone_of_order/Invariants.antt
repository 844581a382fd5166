use Rattle.std.proofs.Common.{◌≡◌, ◌++◌, take, drop, get_or, sum_by}
use Rattle.bh_model.specs.Zones.{zone_from}
use Rattle.bh_plain.proofs.zones.zone_of_order.Given as goal

abbrev pub invariant-loop-n : goal.invariant-loop-n
invariant-loop-n l = record {
  before : l.before ≡ sum_by (λ m. get_or l.costs m 0) (take l.n-index l.order);
  zone : l.zone.items ++ zone_from (λ m. get_or l.costs m 0) l.workers l.whole l.before (drop l.n-index l.order) l.w
      ≡ zone_from (λ m. get_or l.costs m 0) l.workers l.whole 0 l.order l.w;
}
