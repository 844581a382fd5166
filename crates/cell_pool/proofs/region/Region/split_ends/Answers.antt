use Rattle.std.proofs.Common.{ap, subst, sym, arith, length}
use Rattle.bh_model.specs.Bodies.{NoneTwice}
use Rattle.cell_pool.proofs.Regions.{length-ends, once_ends}
use Rattle.cell_pool.proofs.region.Region.split_ends.Goals as goal

pub of-ends-requires : goal.of-ends-requires
of-ends-requires c =
    subst NoneTwice (sym c.in_ok-list.ensures)
    (once_ends c.args.front c.args.back c.args.self.now.cells c.requires.cells c.len.ensures.rule.once)

pub reserve-requires : goal.reserve-requires
reserve-requires c =
    let count = ap length c.in_ok-list.ensures in
    let ends = length-ends c.args.front c.args.back c.args.self.now.cells c.requires.cells in
    omega (arith, count, ends, c.of-ends.ensures.room, c.requires.room, c.requires.cells, c.room.ensures)
