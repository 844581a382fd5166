use Rattle.std.proofs.Common.{ℕ, ◌<◌, get_or}
use Rattle.octant_code.specs.Points.{site_at}
use Rattle.tree_rule.specs.Words.{at_of}
use Rattle.tree_rule.specs.Tested.{IsRightCell}
use Rattle.tree_rule.proofs.stands.are_right_cells.Given as goal

abbrev pub invariant-loop-c : goal.invariant-loop-c
invariant-loop-c l = (k : ℕ) → k < l.c-index → IsRightCell (site_at l.points) (at_of l.words) l.cells l.bodies (get_or l.cells k 0)
