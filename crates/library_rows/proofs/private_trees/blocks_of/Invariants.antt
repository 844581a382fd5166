use Rattle.std.proofs.Common.{◌<◌, All, length}
use Rattle.library_rows.proofs.private_trees.blocks_of.Given as goal

abbrev pub invariant-loop-n : goal.invariant-loop-n
invariant-loop-n l = All (λ m. m < length l.points) l.mine.items × All (λ m. m < length l.points) l.others.items
