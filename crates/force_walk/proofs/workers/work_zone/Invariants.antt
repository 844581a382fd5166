use Rattle.std.proofs.Common.{◌≡◌, length, map, take}
use Rattle.mass_moments.specs.Kept.{matter_of}
use Rattle.force_walk.specs.Placed.{walk_of}
use Rattle.force_walk.proofs.workers.work_zone.Given as goal

abbrev pub invariant-loop-k : goal.invariant-loop-k
invariant-loop-k g l = (length l.list ≡ length l.zone) × (take l.k l.list ≡ map (walk_of l.law (matter_of l.bodies) l.table) (take l.k l.zone))
