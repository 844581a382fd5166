use Rattle.std.proofs.Common.{◌≡◌, ◌+◌, ◌*◌, ◌≤◌}
use Rattle.tree_passes.specs.Turns.{IsStill}
use Rattle.shared_tree.specs.Inserting.{IsAt}
use Rattle.shared_tree.proofs.descent.insert.Given as goal

abbrev pub invariant-loop-level : goal.invariant-loop-level
invariant-loop-level g l =
    (l.pass.table_id ≡ l.fn.pass.table_id) × (l.pass.me.1 ≡ l.fn.pass.me.1) × (l.steps ≤ l.fn.steps + 3 * l.level)
    × (l.spot.level ≡ l.level) × IsAt l.pass.me.0 l.table.table_id.words l.points l.n l.spot × IsStill l.fn.pass.me.0 l.pass.me.0
