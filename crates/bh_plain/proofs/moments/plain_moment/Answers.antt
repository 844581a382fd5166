use Rattle.std.proofs.Common.{arith, get_or}
use Rattle.bh_model.specs.Moments.{matter_by}
use Rattle.bh_plain.proofs.ListMoments.{bodies_in_cube, moment_fits}
use Rattle.bh_plain.proofs.moments.plain_moment.Goals as goal

pub moment_of_part-requires : goal.moment_of_part-requires
moment_of_part-requires c = record {
  within = c.requires.within;
  weighed = c.requires.weighed;
  costed = c.requires.costed;
  shallow = omega arith;
  fits =
      moment_fits (matter_by c.args.masses.now c.args.points.now) (λ n. get_or c.args.costs.now n 0) c.args.bodies.now
      (bodies_in_cube c.args.points.now c.args.bodies.now c.len-rule.ensures.rule c.requires.within) c.requires.light c.requires.few c.requires.cheap;
}
