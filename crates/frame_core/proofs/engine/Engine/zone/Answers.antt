use Rattle.std.proofs.Common.{◌<◌, ◌∙◌, ap, length, arith}
use Rattle.mass_moments.specs.Kept.{cost_at}
use Rattle.frame_core.specs.Frames.{tree_of_bodies}
use Rattle.frame_core.proofs.Stages.{frame_of_stage}
use Rattle.frame_core.proofs.Zones.{zone_is, zones_count}
use Rattle.frame_core.proofs.engine.Engine.zone.Goals as goal

pub index-requires : goal.index-requires
index-requires c =
    let e = c.args.self.now in
    let lists = c.in-Frame.parts.zones in
    let parts = frame_of_stage c.self.inside e c.in-Frame.parts c.self.view_is c.self.invariant c.in-Frame.is in
    omega (arith, zones_count (λ z. z.items) lists.items (cost_at e.costs) e.plan.workers (tree_of_bodies e.bodies) parts.zones, lists.ok.0, c.requires.worker)

pub returns : goal.returns
returns c =
    let e = c.args.self.now in
    let lists = c.in-Frame.parts.zones.items in
    let parts = frame_of_stage c.self.inside e c.in-Frame.parts c.self.view_is c.self.invariant c.in-Frame.is in
    let less : c.args.w < length lists = omega
    (arith, zones_count (λ z. z.items) lists (cost_at e.costs) e.plan.workers (tree_of_bodies e.bodies) parts.zones, c.requires.worker) in
    c.deref.ensures.value ∙ ap (λ z. z.items) c.index.ensures
    ∙ zone_is (λ z. z.items) lists (cost_at e.costs) e.plan.workers (tree_of_bodies e.bodies) c.args.w c.index.result.now parts.zones less
