use Rattle.space_split.specs.Ranges.{AreCubesOf}
use Rattle.space_split.specs.Rows.{AreWhole}
use Rattle.space_split.proofs.split.undivided_cubes.Given as goal

abbrev pub invariant-loop-level : goal.invariant-loop-level
invariant-loop-level g l = AreCubesOf l.codes l.most l.level l.cubes.items × AreWhole l.codes l.cubes.items
