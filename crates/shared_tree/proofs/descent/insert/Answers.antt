use Rattle.std.proofs.Common.{arith, refl, ap, sym, ◌∙◌}
use Rattle.octant_code.specs.Space.{octant_of}
use Rattle.octant_code.specs.Points.{site_at}
use Rattle.tree_passes.proofs.Laws.{still_on, still_refl}
use Rattle.shared_tree.proofs.Puts.{at_below, at_root}
use Rattle.shared_tree.proofs.descent.insert.Goals as goal

pub loop-level-init : goal.loop-level-init
loop-level-init g c =
    let r = c.requires in
    (refl, refl, omega arith, refl, at_root _ _ _ _ r.points r.ready.long r.some r.few c.len-rule.ensures.rule r.n_in r.todo r.no_lock, still_refl _)

pub loop-level-preserved : goal.loop-level-preserved
loop-level-preserved g c =
    let i = c.loop-level.invariant in
    let e = c.in-Below.ensures in (
      e.pass.0 ∙ i.0,
      e.pass.1 ∙ i.1,
      omega (arith, e.steps, i.2),
      refl,
      at_below c.loop-level.pass.me.0 c.visit.new.pass.me.0 _ c.args.points.now c.args.n c.loop-level.spot _ c.in-Below.cell c.octant.result i.4 e.turn
          e.no_lock
          (c.octant.ensures.value ∙ ap (λ s. octant_of s c.loop-level.level) c.at-p.ensures.value
          ∙ ap (octant_of (site_at c.args.points.now c.args.n)) (sym i.3))
          c.octant.ensures.small c.place_of_child.ensures c.place_of_lock.ensures (omega (arith, i.3)),
      still_on _ _ _ i.5 e.turn.still,
    )
