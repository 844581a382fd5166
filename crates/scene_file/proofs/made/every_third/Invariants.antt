use Rattle.std.proofs.Common.{◌≡◌, ◌-◌, ◌*◌, ◌/◌, ◌^◌, ◌<◌}
use Rattle.scene_file.specs.Made.{every_third}
use Rattle.scene_file.proofs.made.every_third.Given as goal

abbrev pub invariant-loop-level : goal.invariant-loop-level
invariant-loop-level l = (l.number ≡ every_third l.level (l.code / 2 ^ (3 * (21 - l.level)))) × (l.number < 2 ^ l.level)
