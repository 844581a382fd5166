use Rattle.std.proofs.Common.{subst, sym, arith, map, rules}
use Rattle.std.proofs.lemmas.List.Elements.{All-replicate}
use Rattle.std.specs.List.{All}
use Rattle.bh_model.specs.Zones.{IsCost}
use Rattle.build_workers.specs.Shares.{AreShares}
use Rattle.drift.proofs.Beginnings.{first_points}
use Rattle.frame_core.proofs.engine.Engine.open.Goals as goal

pub invariant_of-result : goal.invariant_of-result
invariant_of-result c = record {
  whole = first_points c.args.bodies;
  one_cost_each = search rules;
  cost = subst (All IsCost) (sym (c.in_ok-costs.ensures.items_if_clones_equal (λ y e. e)))
      (All-replicate IsCost _ 1 (record { positive = omega arith; small = omega arith }));
  shares = subst (λ n. AreShares n (map (λ z. z.items) c.in_ok-shares.shares.items)) c.len-2.ensures.value c.in_ok-shares.ensures.shares;
  last = tt;
  at_stage = tt;
}
