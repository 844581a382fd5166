use Rattle.std.proofs.Common.{arith, ap, ◌≡◌, ◌≤◌, ◌<◌, ◌/◌, ◌*◌, ◌^◌, ◌+◌, ◌∙◌}
use Rattle.octant_code.proofs.Levels.{below_next, level_is, next_level}
use Rattle.octant_code.proofs.space.level_of.Goals as goal

pub returns-then-rest-lt8-clause-level : goal.returns-then-rest-lt8-clause-level
returns-then-rest-lt8-clause-level c =
    level_is c.args.key c.loop-level.level c.requires c.loop-level.invariant.1
    (below_next c.args.key c.loop-level.rest c.loop-level.level c.loop-level.invariant.0 c.if-rest-lt8.true)

pub loop-level-preserved : goal.loop-level-preserved
loop-level-preserved c = next_level c.args.key c.loop-level.rest c.loop-level.level c.loop-level.invariant.0 c.if-rest-lt8.false
