use Rattle.std.proofs.Common.{ℕ, ◌≡◌, ◌++◌, drop, sum_by, take}
use Rattle.bh_model.specs.Pieces.{dealt}
use Rattle.bh_plain.proofs.pieces.deal.Given as goal

abbrev pub invariant-loop-key : goal.invariant-loop-key
invariant-loop-key l = (l.before ≡ sum_by (λ (c : ℕ × ℕ). c.1) (take l.key-index l.cubes))
    × (l.pieces.items ++ dealt l.whole l.workers l.before (drop l.key-index l.cubes) ≡ dealt l.whole l.workers 0 l.cubes)
