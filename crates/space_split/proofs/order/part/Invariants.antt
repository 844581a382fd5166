use Rattle.std.proofs.Common.{◌≡◌, ◌≤◌, length}
use Rattle.std.specs.List.Sorted.{IsPermutation}
use Rattle.space_split.proofs.order.part.Given as goal

abbrev pub invariant-loop-i : goal.invariant-loop-i
invariant-loop-i l = IsPermutation l.initial.ranks l.ranks × (length l.ranks ≡ length l.initial.ranks) × (l.count ≤ l.i)
