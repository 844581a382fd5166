use Rattle.std.proofs.Common.{ap, ◌∙◌}
use Rattle.bh_model.specs.Pulls.{PullLaw}
use Rattle.bh_plain.proofs.ListPulls.{far_coded}
use Rattle.bh_plain.proofs.pulls.is_far.Goals as goal

pub returns : goal.returns
returns c =
    far_coded c.args.law.now c.args.down c.from-num.result c.from-den.result c.from.result c.args.from c.args.to c.requires
    (c.from-num.ensures ∙ ap (λ (l : PullLaw). l.theta_num) c.law.view_is) (c.from-den.ensures ∙ ap (λ (l : PullLaw). l.theta_den) c.law.view_is)
    (c.from.ensures ∙ c.squared_distance.ensures.value)
