use Rattle.std.proofs.Common.{ℕ, ◌≡◌, ◌<◌, get_or, length, set, take}
use Rattle.space_split.specs.Ranges.{octant_count}
use Rattle.space_split.proofs.count.octant_counts.Given as goal

abbrev pub invariant-loop-code : goal.invariant-loop-code
invariant-loop-code l =
    (length l.counts ≡ 8)
    × (l.last < 8)
    × ((k : ℕ) → k < 8 → get_or (set l.counts l.last l.run) k 0 ≡ octant_count (take l.code-index l.codes) l.level k)
