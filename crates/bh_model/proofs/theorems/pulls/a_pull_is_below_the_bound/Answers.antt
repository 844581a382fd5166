use Rattle.std.proofs.Common.{◌≤◌, ◌^◌, subst}
use Rattle.bh_model.specs.Pulls.{PullLaw}
use Rattle.bh_model.proofs.PullBounds.{pull_below}
use Rattle.bh_model.proofs.theorems.pulls.a_pull_is_below_the_bound.Goals as goal

pub returns : goal.returns
returns c =
    pull_below c.args.law.now c.args.masses.now c.args.points.now c.args.n c.len.ensures.rule c.requires.own
    (subst (λ (l : PullLaw). l.g ≤ 2 ^ 40) c.law.view_is c.law.invariant.g_fits) c.requires.light
