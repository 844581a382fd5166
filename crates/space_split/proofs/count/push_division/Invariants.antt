use Rattle.std.proofs.Common.{◌≡◌, ◌+◌, ◌++◌}
use Rattle.bh_model.proofs.Pieces.{rows}
use Rattle.space_split.specs.Ranges.{child_of, codes_of, earlier_count}
use Rattle.space_split.proofs.count.push_division.Given as goal

abbrev pub invariant-loop-k : goal.invariant-loop-k
invariant-loop-k l = (l.start ≡ l.cube.start + earlier_count (codes_of l.codes l.cube) l.level l.k)
    × (l.next.items ≡ l.fn.next.items ++ rows (child_of l.codes l.level l.cube) l.k)
