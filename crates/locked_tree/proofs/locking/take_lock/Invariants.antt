use Rattle.std.proofs.Common.{◌≡◌}
use Rattle.locked_tree.proofs.locking.take_lock.Given as goal

abbrev pub invariant-loop : goal.invariant-loop
invariant-loop g l =
    (goal.iterator-loop g).can_next l.iterator' × (goal.iterator-loop g).is_finite l.iterator'
    × (l.pass.table_id ≡ l.fn.pass.table_id) × (l.pass.me.1 ≡ l.fn.pass.me.1) × (l.pass.me.0 ≡ l.fn.pass.me.0)

abbrev pub invariant-loop-2 : goal.invariant-loop-2
invariant-loop-2 g l = (l.pass.table_id ≡ l.fn.pass.table_id) × (l.pass.me.1 ≡ l.fn.pass.me.1) × (l.pass.me.0 ≡ l.fn.pass.me.0)
