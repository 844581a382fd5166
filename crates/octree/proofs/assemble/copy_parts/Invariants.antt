use Rattle.octree.specs.Growing.{AreFilled, cells_in}
use Rattle.octree.proofs.assemble.copy_parts.Given as goal

abbrev pub invariant-loop-i : goal.invariant-loop-i
invariant-loop-i l = AreFilled l.points l.parts l.words.items l.places (cells_in l.fn.words.items) l.i
