use Rattle.std.proofs.Common.{◌≡◌, take}
use Rattle.octant_code.specs.Points.{site_at}
use Rattle.bh_model.specs.Trees.{in_octant}
use Rattle.bh_plain.proofs.trees.bodies_in_octant.Given as goal

abbrev pub invariant-loop-n : goal.invariant-loop-n
invariant-loop-n l = l.part.items ≡ in_octant (site_at l.points) l.level l.k (take l.n-index l.bodies)
