use Rattle.std.proofs.Common.{rules}
use Rattle.tree_passes.specs.Opening.{opening_of}
use Rattle.tree_passes.proofs.LockSteps.{releases}
use Rattle.tree_passes.proofs.locks.unlock.Goals as goal

pub store-requires : goal.store-requires
store-requires c = (
  search rules,
  search rules,
  rw c.requires.locks (releases (opening_of c.args.table.now.key) _ _ _ _ c.requires.held
      (rw c.requires.long c.requires.word)),
)
