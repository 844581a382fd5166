use Rattle.std.proofs.Common.{rules}
use Rattle.tree_passes.specs.Opening.{opening_of}
use Rattle.tree_passes.proofs.Drawing.{draws}
use Rattle.tree_passes.proofs.locks.draw_cell.Goals as goal

pub fetch_add-requires : goal.fetch_add-requires
fetch_add-requires c = (search rules, search rules, rw c.requires.locks (draws (opening_of c.args.table.now.key) _ _ _ c.requires.quota))
