use Rattle.std.proofs.Common.{◌<◌, ◌≡◌, All, length}
use Rattle.space_split.proofs.tests.first_numbers.Given as goal

abbrev pub invariant-loop-n : goal.invariant-loop-n
invariant-loop-n l = All (λ n. n < l.n) l.list.items × (length l.list.items ≡ l.n)
