use Rattle.std.proofs.Common.{take}
use Rattle.space_split.specs.Parts.{AreBuilt}
use Rattle.space_split.proofs.shares.build_parts.Given as goal

abbrev pub invariant-loop-i : goal.invariant-loop-i
invariant-loop-i g l = AreBuilt l.points l.bodies (take l.i l.cubes) l.parts.items
