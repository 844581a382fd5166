use Rattle.std.proofs.Common.{◌-◌, ◌^◌}
use Rattle.octree.proofs.Copying.{AreChildrenCopied}
use Rattle.octree.proofs.assemble.+copy_below.Given as goal

abbrev pub decreases-copy_below : goal.decreases-copy_below
decreases-copy_below l = 2 ^ 64 - l.key

abbrev pub invariant-loop-k : goal.invariant-loop-k
invariant-loop-k l = AreChildrenCopied l.points l.parts l.from l.key l.cell l.fn.words.items l.words.items l.place l.copy l.k
