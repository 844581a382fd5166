use Rattle.std.proofs.Common.{◌≡◌, ◌++◌, drop, map, sum_by, take}
use Rattle.bh_model.specs.Pieces.{dealt}
use Rattle.space_split.specs.Ranges.{pair_of}
use Rattle.space_split.specs.declared.cube.Cube.{Cube}
use Rattle.space_split.proofs.split.deal.Given as goal

abbrev pub invariant-loop-cube : goal.invariant-loop-cube
invariant-loop-cube l = (l.before ≡ sum_by (λ (c : Cube). c.count) (take l.cube-index l.cubes))
    × (l.pieces.items ++ dealt l.whole l.workers l.before (map pair_of (drop l.cube-index l.cubes)) ≡ dealt l.whole l.workers 0 (map pair_of l.cubes))
