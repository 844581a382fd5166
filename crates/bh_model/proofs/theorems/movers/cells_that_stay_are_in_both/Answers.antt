use Rattle.octant_code.specs.Points.{site_at}
use Rattle.bh_model.proofs.Cells.{placed_of_points}
use Rattle.bh_model.proofs.Movers.{stay_after, stay_before}
use Rattle.bh_model.proofs.theorems.movers.cells_that_stay_are_in_both.Goals as goal

pub returns : goal.returns
returns c =
    let old = placed_of_points c.args.old.now c.args.bodies.now c.len.ensures.rule c.requires.old_within in
    let new = placed_of_points c.args.new.now c.args.bodies.now c.len-2.ensures.rule c.requires.new_within in
    record {
      before = stay_before (site_at c.args.old.now) (site_at c.args.new.now) c.args.bodies.now c.requires.distinct old new c.args.key;
      after = stay_after (site_at c.args.old.now) (site_at c.args.new.now) c.args.bodies.now c.requires.distinct old new c.args.key;
    }
