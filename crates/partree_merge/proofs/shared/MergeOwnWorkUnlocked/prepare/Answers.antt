use Rattle.std.proofs.Common.{arith, length}
use Rattle.tree_rule.proofs.Laws.{few_below}
use Rattle.partree_merge.proofs.shared.MergeOwnWorkUnlocked.prepare.Goals as goal

pub overflow_cast-share : goal.overflow_cast-share
overflow_cast-share c =
    let few = few_below (length c.args.self.now.points.now) c.args.share.now c.requires.serves.once c.requires.serves.within in
    omega (arith, few, c.len-rule.ensures.rule.few)

pub overflow_mul-share : goal.overflow_mul-share
overflow_mul-share c =
    let few = few_below (length c.args.self.now.points.now) c.args.share.now c.requires.serves.once c.requires.serves.within in
    omega (arith, few, c.len-rule.ensures.rule.few)

pub empty-requires : goal.empty-requires
empty-requires c =
    let few = few_below (length c.args.self.now.points.now) c.args.share.now c.requires.serves.once c.requires.serves.within in
    omega (arith, few, c.len-rule.ensures.rule.few)
