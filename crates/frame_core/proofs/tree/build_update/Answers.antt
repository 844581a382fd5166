use Rattle.std.proofs.Common.{◌≡◌, ◌∙◌, Option, Some, ap, sym}
use Rattle.std.specs.Arc.{arc_value}
use Rattle.bh_model.specs.declared.plan.Builder.TheVariants.{Update}
use Rattle.frame_core.specs.Building.{MadeTree, told_update, update_from}
use Rattle.frame_core.proofs.tree.build_update.Goals as goal

pub returns-clause-update : goal.returns-clause-update
returns-clause-update g c =
    let sites = arc_value c.args.points.now in
    let told : c.in_ok-octree-2.counts ≡ update_from c.in-Some.last sites = c.in_ok-octree-2.ensures.counts
    ∙ ap (λ (m : MadeTree). update_from m sites) c.last.view_is in
    ap Some told ∙ sym (ap (λ (m : Option MadeTree). told_update Update m sites) c.in-Some.is)
