use Rattle.std.proofs.Common.{◌≡◌, ap, length, map, subst, sym, ◌∙◌}
use Rattle.build_workers.specs.Shares.{AreShares}
use Rattle.frame_core.proofs.Moved.{shifted_count}
use Rattle.frame_core.specs.Held.{IsOfSize}
use Rattle.drift.proofs.Beginnings.{first_points}
use Rattle.frame_core.proofs.engine.Engine.shift.Goals as goal

pub invariant_of-self : goal.invariant_of-self
invariant_of-self c =
    let rule = c.self.invariant in
    let count : length c.in-Ok.bodies ≡ length c.self.inside.bodies = ap length c.in-Ok.ensures ∙ shifted_count _ c.self.inside.bodies in
    record {
      whole = first_points c.in-Ok.bodies;
      one_cost_each = rule.one_cost_each ∙ sym count;
      cost = rule.cost;
      shares = subst (λ n. AreShares n (map (λ s. s.items) c.self.inside.shares.items)) (sym count) rule.shares;
      last = subst (λ n. IsOfSize n c.self.inside.last) (sym count) rule.last;
      at_stage = tt;
    }
