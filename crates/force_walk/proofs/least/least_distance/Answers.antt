use Rattle.std.proofs.Common.{◌≡◌, ◌∙◌, ap, arith}
use Rattle.bh_model.specs.Pulls.{PullLaw}
use Rattle.force_walk.proofs.Distances.{coded_near, coded_side, least_beyond, least_near}
use Rattle.force_walk.proofs.least.least_distance.Goals as goal

pub returns-then-near-from : goal.returns-then-near-from
returns-then-near-from c =
    least_near c.args.law.now c.args.down _ _
    (λ (z : c.args.law.now.theta_num ≡ 0). c.if-num-eq0.false (c.from-num.ensures ∙ ap (λ (l : PullLaw). l.theta_num) c.law.view_is ∙ z))
    (coded_side c.args.law.now _ c.args.down c.from-den.result c.requires c.from-den.ensures c.law.view_is)
    (coded_near c.args.law.now _ _ c.from-num.result c.from-num.ensures c.law.view_is)

pub returns-else-near-from : goal.returns-else-near-from
returns-else-near-from c =
    least_beyond c.args.law.now c.args.down _ _
    (λ (z : c.args.law.now.theta_num ≡ 0). c.if-num-eq0.false (c.from-num.ensures ∙ ap (λ (l : PullLaw). l.theta_num) c.law.view_is ∙ z))
    (coded_side c.args.law.now _ c.args.down c.from-den.result c.requires c.from-den.ensures c.law.view_is)
    (coded_near c.args.law.now _ _ c.from-num.result c.from-num.ensures c.law.view_is) (omega (arith, c.if-near-from.false, c.from.ensures))
