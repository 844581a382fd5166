use Rattle.std.proofs.Common.{ℕ, ◌≡◌, ◌<◌, get_or, length}
use Rattle.space_split.specs.Spreads.{spread_of}
use Rattle.space_split.proofs.interleave.spreads.Given as goal

abbrev pub invariant-loop-k : goal.invariant-loop-k
invariant-loop-k l = (length l.table ≡ 128) × ((j : ℕ) → j < l.k → get_or l.table j 0 ≡ spread_of 7 j)
