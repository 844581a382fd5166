use Rattle.tree_passes.proofs.Laws.{ready_still}
use Rattle.shared_tree.proofs.PartCopies.{none_some}
use Rattle.shared_tree.proofs.PartPuts.{leads_part, missed_below, missed_found, missed_small, missed_still, part_on}
use Rattle.shared_tree.proofs.merge.put_part_alone.Goals as goal

pub publish_copy-requires-clause-other : goal.publish_copy-requires-clause-other
publish_copy-requires-clause-other g c = λ x e. absurd (none_some x e)

pub named_by-requires : goal.named_by-requires
named_by-requires g c = missed_small _ _ _ _ _ _ c.in-Missed.ensures.tried _ _ _ _ c.requires.at

pub unreachable-requires : goal.unreachable-requires
unreachable-requires g c = absurd (c.in-Missed.ensures.tried.apart c.in-Nothing.ensures)

pub put_part_over-requires-clause-at : goal.put_part_over-requires-clause-at
put_part_over-requires-clause-at g c =
    part_on _ _ _ _ _ _ _ (missed_still _ _ _ _ _ _ c.in-Missed.ensures.tried) c.in-Missed.ensures.no_lock c.requires.at

pub put_part_over-requires-clause-there : goal.put_part_over-requires-clause-there
put_part_over-requires-clause-there g c =
    (missed_found _ _ _ _ _ _ c.in-Missed.ensures.tried c.in-Missed.ensures.tried.apart).body c.in-Body.x c.in-Body.ensures

pub put_part_over-requires-clause-ready : goal.put_part_over-requires-clause-ready
put_part_over-requires-clause-ready g c = ready_still _ _ _ _ (missed_still _ _ _ _ _ _ c.in-Missed.ensures.tried) c.requires.ready

pub returns-in-Body-clause-turn : goal.returns-in-Body-clause-turn
returns-in-Body-clause-turn g c =
    leads_part _ _ _ _ _ _ c.put_part_over.result (missed_still _ _ _ _ _ _ c.in-Missed.ensures.tried) c.put_part_over.ensures.turn

pub returns-in-Cell-clause-turn : goal.returns-in-Cell-clause-turn
returns-in-Cell-clause-turn g c = missed_below _ _ _ _ _ _ c.in-Missed.ensures.tried _ c.in-Cell.ensures
