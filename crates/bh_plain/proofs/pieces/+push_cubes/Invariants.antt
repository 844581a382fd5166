use Rattle.std.proofs.Common.{◌≡◌, ◌++◌, ◌-◌}
use Rattle.octant_code.specs.Points.{site_at}
use Rattle.bh_model.proofs.Pieces.{rows}
use Rattle.bh_plain.proofs.ListPieces.{octant_cubes}
use Rattle.bh_plain.proofs.pieces.+push_cubes.Given as goal

abbrev pub decreases-push_cubes : goal.decreases-push_cubes
decreases-push_cubes l = 21 - l.level

abbrev pub invariant-loop-k : goal.invariant-loop-k
invariant-loop-k l = l.out.items ≡ l.fn.out.items ++ rows (octant_cubes (site_at l.points) l.most l.level l.key l.bodies) l.k
