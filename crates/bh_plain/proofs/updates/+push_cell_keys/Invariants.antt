use Rattle.std.proofs.Common.{◌≡◌, ◌++◌, ◌∷◌, [], ◌-◌}
use Rattle.octant_code.specs.Points.{site_at}
use Rattle.bh_model.proofs.Lists.{joined}
use Rattle.bh_plain.proofs.ListUpdates.{octant_cells}
use Rattle.bh_plain.proofs.updates.+push_cell_keys.Given as goal

abbrev pub decreases-push_cell_keys : goal.decreases-push_cell_keys
decreases-push_cell_keys l = 21 - l.level

abbrev pub invariant-loop-k : goal.invariant-loop-k
invariant-loop-k l = l.out.items ≡ (l.fn.out.items ++ l.key ∷ []) ++ joined (octant_cells (site_at l.points) l.level l.key l.bodies) l.k
