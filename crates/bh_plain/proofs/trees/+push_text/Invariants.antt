use Rattle.std.proofs.Common.{◌≡◌, ◌++◌, ◌∷◌, ◌-◌}
use Rattle.octant_code.specs.Points.{site_at}
use Rattle.bh_model.proofs.Lists.{joined}
use Rattle.bh_model.proofs.Splits.{octant_texts}
use Rattle.bh_plain.proofs.trees.+push_text.Given as goal

abbrev pub decreases-push_text : goal.decreases-push_text
decreases-push_text l = 21 - l.level

abbrev pub invariant-loop-k : goal.invariant-loop-k
invariant-loop-k l = l.out.items ≡ l.fn.out.items ++ (40 ∷ joined (octant_texts (site_at l.points) l.level l.bodies) l.k)
