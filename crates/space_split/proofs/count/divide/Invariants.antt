use Rattle.std.proofs.Common.{◌≡◌, flat_map, take}
use Rattle.space_split.specs.Ranges.{division_of}
use Rattle.space_split.proofs.count.divide.Given as goal

abbrev pub invariant-loop-i : goal.invariant-loop-i
invariant-loop-i g l = l.next.items ≡ flat_map (division_of l.codes l.most l.level) (take l.i l.cubes)
