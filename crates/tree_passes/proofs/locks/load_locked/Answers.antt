use Rattle.std.proofs.Common.{rules}
use Rattle.tree_passes.specs.Opening.{opening_of}
use Rattle.tree_passes.proofs.UnderLocks.{looks_under}
use Rattle.tree_passes.proofs.locks.load_locked.Goals as goal

pub load-requires : goal.load-requires
load-requires c = (
  search rules,
  search rules,
  rw c.requires.locks (looks_under (opening_of c.args.table.now.key) _ _ _ _ _ _ c.requires.known.1 c.requires.held.1 c.requires.held.2),
)
