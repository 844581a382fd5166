use Rattle.std.proofs.Common.{get_or}
use Rattle.update_build.proofs.Contracting.{IsLeftSoFar}
use Rattle.update_build.proofs.reading.word_left.Given as goal

abbrev pub invariant-loop-k : goal.invariant-loop-k
invariant-loop-k l = IsLeftSoFar (λ k. get_or l.children k 0) l.k l.left
