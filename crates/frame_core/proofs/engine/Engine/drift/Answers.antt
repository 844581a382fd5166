use Rattle.std.proofs.Common.{◌≡◌, List, ap, length, map, refl, subst, sym, ◌∙◌}
use Rattle.std.proofs.lemmas.List.{length-map, with_items_is}
use Rattle.std.specs.List.{All}
use Rattle.std.specs.Vec.{with_items}
use Rattle.bh_model.specs.Zones.{IsCost, cost_after}
use Rattle.bh_model.specs.declared.pull.Pull.{Pull}
use Rattle.build_workers.specs.Shares.{AreShares}
use Rattle.drift.specs.Motions.{stepped, whole_points}
use Rattle.drift.proofs.Beginnings.{first_points}
use Rattle.frame_core.specs.Frames.{tree_of_bodies}
use Rattle.frame_core.specs.Held.{IsOfSize, motion_by, state_of}
use Rattle.frame_core.specs.Next.{bodies_at, drifted}
use Rattle.frame_core.proofs.Frames.{pulls_count}
use Rattle.frame_core.proofs.Moved.{costs_after, drifted_is}
use Rattle.frame_core.proofs.Stages.{frame_of_stage, spent_keeps}
use Rattle.frame_core.proofs.engine.Engine.drift.Goals as goal

pub step_bodies-requires-clause-one_each : goal.step_bodies-requires-clause-one_each
step_bodies-requires-clause-one_each c =
    let i = c.self.inside in
    let parts = frame_of_stage i (state_of i) c.in-Frame.parts refl c.self.invariant (sym c.in-Frame.ensures.value) in
    ap length c.deref.ensures.value ∙ pulls_count i.plan.law i.bodies (tree_of_bodies i.bodies) c.in-Frame.parts.pulls.items parts.pulls

pub invariant_of-self : goal.invariant_of-self
invariant_of-self c =
    let rule = c.self.invariant in
    let bodies = c.self.inside.bodies in
    record {
      whole = ap (λ m. whole_points (motion_by m bodies)) c.replace-motion.ensures.after ∙ first_points bodies;
      one_cost_each = rule.one_cost_each;
      cost = rule.cost;
      shares = rule.shares;
      last = rule.last;
      at_stage = spent_keeps _ _ c.replace-stage.ensures.after;
    }

pub set_costs-requires-clause-one_each : goal.set_costs-requires-clause-one_each
set_costs-requires-clause-one_each c =
    let i = c.self.inside in
    let parts = frame_of_stage i (state_of i) c.in-Frame.parts refl c.self.invariant (sym c.in-Frame.ensures.value) in
    ap length c.deref-2.ensures.value ∙ pulls_count i.plan.law i.bodies (tree_of_bodies i.bodies) c.in-Frame.parts.pulls.items parts.pulls
    ∙ sym (ap length c.deref_mut.ensures.value ∙ c.self.invariant.one_cost_each)

pub set_costs-requires-clause-small : goal.set_costs-requires-clause-small
set_costs-requires-clause-small c =
    let i = c.self.inside in
    let parts = frame_of_stage i (state_of i) c.in-Frame.parts refl c.self.invariant (sym c.in-Frame.ensures.value) in
    subst (λ (l : List Pull). All (λ p. IsCost (cost_after p)) l) (sym c.deref-2.ensures.value) parts.costs

-- the costs that are set
costs_are : (c : goal.After-drop-pulls-2) → (with_items c.self.inside.costs c.set_costs.new.costs).items ≡ map cost_after c.in-Frame.parts.pulls.items
costs_are c =
    let i = c.self.inside in
    let pulls = c.in-Frame.parts.pulls.items in
    let parts = frame_of_stage i (state_of i) c.in-Frame.parts refl c.self.invariant (sym c.in-Frame.ensures.value) in
    let set : c.set_costs.new.costs ≡ map cost_after pulls = c.set_costs.ensures ∙ ap (map cost_after) c.deref-2.ensures.value in
    let many : length c.set_costs.new.costs ≡ length i.bodies = ap length set ∙ length-map pulls cost_after
    ∙ pulls_count i.plan.law i.bodies (tree_of_bodies i.bodies) pulls parts.pulls in
    with_items_is i.costs c.set_costs.new.costs (many ∙ sym c.self.invariant.one_cost_each ∙ sym i.costs.ok.0) ∙ set

pub invariant_of-self-2 : goal.invariant_of-self-2
invariant_of-self-2 c =
    let i = c.self.inside in
    let pulls = c.in-Frame.parts.pulls.items in
    let parts = frame_of_stage i (state_of i) c.in-Frame.parts refl c.self.invariant (sym c.in-Frame.ensures.value) in
    let count = c.in_ok-bodies.ensures.count in
    record {
      whole = c.in_ok-bodies.ensures.points;
      one_cost_each = ap length (costs_are c) ∙ length-map pulls cost_after ∙ pulls_count i.plan.law i.bodies (tree_of_bodies i.bodies) pulls parts.pulls
          ∙ sym count;
      cost = subst (All IsCost) (sym (costs_are c)) (costs_after pulls parts.costs);
      shares = subst (λ n. AreShares n (map (λ z. z.items) c.in-Frame.parts.zones.items)) (sym count) parts.shares;
      last = subst (λ n. IsOfSize n i.last) (sym count) c.self.invariant.last;
      at_stage = tt;
    }

pub returns-clause-moved : goal.returns-clause-moved
returns-clause-moved c =
    let i = c.self.inside in
    let pulls = c.in-Frame.parts.pulls.items in
    let parts = frame_of_stage i (state_of i) c.in-Frame.parts refl c.self.invariant (sym c.in-Frame.ensures.value) in
    let moving : stepped c.deref.result.now (motion_by c.replace-motion.result i.bodies) ≡ stepped pulls (motion_by i.motion i.bodies) =
    ap (λ p. stepped p (motion_by c.replace-motion.result i.bodies)) c.deref.ensures.value
    ∙ ap (λ m. stepped pulls (motion_by m i.bodies)) c.replace-motion.ensures.value in
    drifted_is (state_of i) c.next_number-self-inside.result c.in_ok-bodies.bodies c.in_ok-bodies.motion _ _ pulls parts.pulls
    c.next_number-self-inside.ensures (c.in_ok-bodies.ensures.bodies ∙ ap (λ m. bodies_at (whole_points m) i.bodies) moving)
    (c.in_ok-bodies.ensures.motion ∙ moving) (costs_are c) parts.zones
    ∙ ap drifted c.self.view_is
