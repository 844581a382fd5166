use Rattle.shared_tree.proofs.PartPuts.{missed_below, missed_cell, missed_small, others_at}
use Rattle.shared_tree.proofs.Puts.{names_cell}
use Rattle.shared_tree.proofs.merge.put_part_over.Goals as goal

pub publish_copy-requires-clause-other : goal.publish_copy-requires-clause-other
publish_copy-requires-clause-other g c = others_at _ _ _ _ _ _ _ c.requires.at c.requires.some c.requires.there.body

pub named_by-requires : goal.named_by-requires
named_by-requires g c = missed_small _ _ _ _ _ _ c.in-Missed.ensures.tried _ _ _ _ c.requires.at

pub returns-in-Cell-clause-turn : goal.returns-in-Cell-clause-turn
returns-in-Cell-clause-turn g c = missed_below _ _ _ _ _ _ c.in-Missed.ensures.tried _ c.in-Cell.ensures

pub unreachable-requires : goal.unreachable-requires
unreachable-requires g c =
    let h = c.in-Missed.ensures.tried in
    let cell = missed_cell _ _ _ _ _ _ h c.args.x c.requires.there h.apart in
    names_cell _ _ cell.0 c.named_by.ensures cell.1 c.in_default.not-Cell
