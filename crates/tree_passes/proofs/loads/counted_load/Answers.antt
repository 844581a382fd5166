use Rattle.std.proofs.Common.{rules}
use Rattle.tree_passes.proofs.Quiet.{seeks}
use Rattle.tree_passes.proofs.loads.counted_load.Goals as goal

pub load-requires : goal.load-requires
load-requires g c = (search rules, search rules, seeks c.args.table.now.key _ _ _ _ _ g.T.Target.point c.requires.known.1)
