use Rattle.std.proofs.Common.{rules}
use Rattle.tree_passes.specs.Opening.{opening_of}
use Rattle.tree_passes.proofs.LockSteps.{acquires}
use Rattle.tree_passes.proofs.locks.try_lock.Goals as goal

pub compare_exchange-requires : goal.compare_exchange-requires
compare_exchange-requires c = (
  search rules,
  search rules,
  rw c.requires.locks (acquires (opening_of c.args.table.now.key) _ _ _ _ c.requires.lock (rw c.requires.long c.requires.word) c.requires.none_held),
)
