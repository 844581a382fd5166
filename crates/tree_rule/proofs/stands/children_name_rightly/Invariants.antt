use Rattle.std.proofs.Common.{ℕ, ◌<◌, ◌*◌, ◌+◌}
use Rattle.octant_code.specs.Points.{site_at}
use Rattle.tree_rule.specs.Words.{at_of, child_place, key_place}
use Rattle.tree_rule.specs.Tested.{NamesRightly}
use Rattle.tree_rule.proofs.stands.children_name_rightly.Given as goal

abbrev pub invariant-loop-k : goal.invariant-loop-k
invariant-loop-k l = (j : ℕ) → j < l.k
    → NamesRightly (site_at l.points) (at_of l.words) l.cells l.bodies (8 * at_of l.words (key_place l.c) + j) (at_of l.words (child_place l.c j))
