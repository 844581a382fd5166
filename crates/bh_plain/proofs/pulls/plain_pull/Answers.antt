use Rattle.std.proofs.Common.{◌≤◌, ◌^◌, subst, arith}
use Rattle.octant_code.proofs.Keys.{key-zero}
use Rattle.octant_code.specs.Points.{site_at}
use Rattle.bh_model.specs.Pulls.{PullLaw}
use Rattle.bh_plain.proofs.pulls.plain_pull.Goals as goal

pub pull_of_part-requires : goal.pull_of_part-requires
pull_of_part-requires c = record {
  own = c.requires.own;
  shallow = omega arith;
  constant = subst (λ (l : PullLaw). l.g ≤ 2 ^ 40) c.law.view_is c.law.invariant.g_fits;
  part = record {
    rule = c.len.ensures.rule;
    once = c.requires.distinct;
    within = c.requires.within;
    weighed = c.requires.weighed;
    under = λ n i. key-zero (site_at c.args.points.now n);
    light = c.requires.light;
  };
}
