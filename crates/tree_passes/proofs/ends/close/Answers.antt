use Rattle.tree_passes.specs.Opening.{opening_of}
use Rattle.tree_passes.proofs.BeginsEnds.{ends, ends_given, ends_unlocked}
use Rattle.tree_passes.proofs.ends.close.Goals as goal

pub returns-clause-closed : goal.returns-clause-closed
returns-clause-closed c =
    let k = c.args.tree.shared.key in ends k.writing (opening_of k) _ _ _ _ c.close_with.ensures.values.2 c.requires.all

pub returns-clause-unlocked : goal.returns-clause-unlocked
returns-clause-unlocked c =
    let k = c.args.tree.shared.key in ends_unlocked k.writing (opening_of k) _ _ _ _ c.close_with.ensures.values.2

pub returns-clause-given : goal.returns-clause-given
returns-clause-given c =
    let k = c.args.tree.shared.key in ends_given k.writing (opening_of k) _ _ _ _ c.close_with.ensures.values.2
