use Rattle.std.proofs.Common.{rules}
use Rattle.tree_passes.specs.Opening.{opening_of}
use Rattle.tree_passes.proofs.UnderLocks.{puts}
use Rattle.tree_passes.proofs.locks.store_locked.Goals as goal

pub store-requires : goal.store-requires
store-requires g c =
    let r = c.requires in (
      search rules,
      search rules,
      rw r.locks (puts (opening_of c.args.table.now.key) _ _ _ _ _ _ c.args.old _ g.B.Batch.cells g.B.Batch.bodies
          r.ready.1 r.held.1 r.held.2 r.loaded r.ready.2),
    )
