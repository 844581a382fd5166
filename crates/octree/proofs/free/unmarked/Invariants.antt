use Rattle.octree.specs.Free.{AreUnmarked}
use Rattle.octree.proofs.free.unmarked.Given as goal

abbrev pub invariant-loop-c : goal.invariant-loop-c
invariant-loop-c l = AreUnmarked l.marks l.c l.list.items
