use Rattle.std.proofs.Common.{arith, ◌≡◌, ◌+◌, ◌*◌, ◌/◌, ◌++◌, ◌∷◌, [], ◌∙◌, ℕ, ap, cond, eqb, get_or, length, ◌<◌, drop}
use Rattle.std.proofs.lemmas.List.Sums.{sum_by_more}
use Rattle.bh_model.specs.Zones.{zone_from}
use Rattle.bh_plain.proofs.ListZones.{zone_more, zone_done}
use Rattle.bh_plain.proofs.zones.zone_of_order.Goals as goal

pub loop-n-preserved : goal.loop-n-preserved
loop-n-preserved c =
    let cost : ℕ → ℕ = λ m. get_or c.args.costs.now m 0 in
    let n : ℕ = get_or c.args.order.now c.loop-n.n-index 0 in
    let whole : ℕ = c.cost_of_list-whole.result in
    let inside : c.loop-n.n-index < length c.args.order.now = omega arith in
    let put : c.push_if.new.out.items ≡ c.loop-n.zone.items ++ cond (eqb (c.loop-n.before * c.args.workers / whole) c.args.w) (n ∷ []) [] =
    c.in_ok-push_if.ensures ∙ ap (λ y. c.loop-n.zone.items ++ cond (eqb y c.from.result) (n ∷ []) []) c.share_of.ensures
    ∙ ap (λ y. c.loop-n.zone.items ++ cond (eqb (c.loop-n.before * c.args.workers / whole) y) (n ∷ []) []) c.from.ensures in
    record {
      before = omega (arith, sum_by_more cost c.args.order.now c.loop-n.n-index 0 inside, c.loop-n.invariant.before, c.from-before.ensures);
      zone =
          ap (λ y. c.push_if.new.out.items ++ zone_from cost c.args.workers whole (c.loop-n.before + y) (drop (c.loop-n.n-index + 1) c.args.order.now)
          c.args.w) c.from-before.ensures
          ∙ zone_more cost c.args.workers whole c.loop-n.before c.args.order.now c.args.w c.loop-n.n-index c.loop-n.zone.items c.push_if.new.out.items _
          inside put c.loop-n.invariant.zone;
    }

pub returns : goal.returns
returns c =
    let cost : ℕ → ℕ = λ m. get_or c.args.costs.now m 0 in
    zone_done cost c.args.workers c.cost_of_list-whole.result c.loop-n.before c.args.order.now c.args.w c.loop-n.n-index c.loop-n.zone.items _ (omega arith)
    c.loop-n.invariant.zone
    ∙ ap (λ y. zone_from cost c.args.workers y 0 c.args.order.now c.args.w) c.cost_of_list-whole.ensures.value
