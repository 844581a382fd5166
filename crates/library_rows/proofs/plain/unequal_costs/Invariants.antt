use Rattle.std.proofs.Common.{◌≡◌, All, length}
use Rattle.bh_model.specs.Zones.{IsCost}
use Rattle.library_rows.proofs.plain.unequal_costs.Given as goal

abbrev pub invariant-loop-n : goal.invariant-loop-n
invariant-loop-n l = (length l.costs.items ≡ l.n) × All IsCost l.costs.items
