use Rattle.std.proofs.Common.{All, length}
use Rattle.bh_model.specs.Trees.{height}
use Rattle.mass_moments.specs.Kept.{matter_of}
use Rattle.octree.specs.Spot.{tree_under}
use Rattle.force_walk.specs.Parts.{IsPart}
use Rattle.force_walk.proofs.parts.+collect.Given as goal

abbrev pub decreases-collect : goal.decreases-collect
decreases-collect l = height (tree_under l.cell)

abbrev pub invariant-loop-k : goal.invariant-loop-k
invariant-loop-k l = All (IsPart (matter_of l.bodies) (length l.bodies) l.least l.cell.octree) l.parts.items
