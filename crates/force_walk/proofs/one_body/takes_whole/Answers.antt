use Rattle.std.proofs.Common.{◌∙◌, ap, not, eq-eqb}
use Rattle.force_walk.proofs.Openings.{not_whole, whole_far}
use Rattle.force_walk.proofs.one_body.takes_whole.Goals as goal

pub returns-then-outside : goal.returns-then-outside
returns-then-outside c =
    whole_far c.args.view.now.law.now c.args.view.now.from c.args.centre c.args.down c.args.key c.args.view.now.own c.requires.shallow c.requires.view.own_is
    c.squared_distance.result _ c.if-outside.true c.squared_distance.ensures.value c.squared_distance.ensures.small
    (c.requires.view.least c.args.down c.requires.shallow)

pub returns-else-outside : goal.returns-else-outside
returns-else-outside c =
    ap not (eq-eqb _ _ c.if-outside.false)
    ∙ not_whole c.args.view.now.law.now c.args.view.now.from c.args.centre c.args.down c.args.key c.args.view.now.own c.requires.shallow
    c.requires.view.own_is c.if-outside.false
