use Rattle.std.proofs.Common.{◌≡◌, nat_eq, take}
use Rattle.std.specs.HashSet.{contains}
use Rattle.std.specs.List.{list_any}
use Rattle.octant_code.specs.Space.{IsInCube, Site, packed, same_coordinates}
use Rattle.scene_file.specs.Bodies.{sites_of}
use Rattle.drift.specs.Motions.{first_motion}
use Rattle.drift.proofs.motion.Motion.new.Given as goal

abbrev pub invariant-loop-n : goal.invariant-loop-n
invariant-loop-n l = record {
  list : l.list.items ≡ first_motion (take l.n l.bodies);
  held : (s : Site) → IsInCube s → contains nat_eq l.taken (packed s) ≡ list_any (same_coordinates s) (sites_of (take l.n l.bodies));
}
