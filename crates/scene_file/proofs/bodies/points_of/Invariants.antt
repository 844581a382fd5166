use Rattle.std.proofs.Common.{◌≡◌, take}
use Rattle.scene_file.specs.Bodies.{sites_of}
use Rattle.scene_file.proofs.bodies.points_of.Given as goal

abbrev pub invariant-loop-body : goal.invariant-loop-body
invariant-loop-body l = l.list.items ≡ sites_of (take l.body-index l.bodies)
