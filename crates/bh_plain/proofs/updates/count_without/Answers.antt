use Rattle.std.proofs.Common.{arith}
use Rattle.bh_plain.proofs.ListUpdates.{without_few}
use Rattle.bh_plain.proofs.updates.count_without.Goals as goal

pub overflow_add-count : goal.overflow_add-count
overflow_add-count c =
    omega (arith, c.loop-key.invariant, without_few c.args.keys.now c.args.others.now c.loop-key.key-index, c.loop-key-test.true, c.requires)
