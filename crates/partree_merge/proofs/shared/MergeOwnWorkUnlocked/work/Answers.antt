use Rattle.std.proofs.Common.{length}
use Rattle.partree_merge.proofs.Filled.{all_below}
use Rattle.partree_merge.proofs.shared.MergeOwnWorkUnlocked.work.Goals as goal

pub order_share-requires-clause-below : goal.order_share-requires-clause-below
order_share-requires-clause-below g c = all_below c.args.share.now (length c.args.self.now.points.now) c.requires.prepared.0.serves.within
