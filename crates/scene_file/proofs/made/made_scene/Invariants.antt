use Rattle.std.proofs.Common.{◌≡◌}
use Rattle.scene_file.specs.Made.{made_bodies}
use Rattle.scene_file.proofs.made.made_scene.Given as goal

abbrev pub invariant-loop-i : goal.invariant-loop-i
invariant-loop-i l = l.list.items ≡ made_bodies l.i l.seed l.shape
