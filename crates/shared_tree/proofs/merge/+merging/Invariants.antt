use Rattle.std.proofs.Common.{◌+◌, ◌-◌, ◌*◌, ◌≡◌, ◌≤◌, length}
use Rattle.shared_tree.specs.Seen.{risen}
use Rattle.shared_tree.proofs.MergeParts.{bodies_before}
use Rattle.shared_tree.proofs.Merges.{IsMergedUpTo, steps_before}
use Rattle.shared_tree.proofs.merge.+merging.Given as goal

abbrev pub decreases-merge_below : goal.decreases-merge_below
decreases-merge_below g l = 2 * (21 - l.spot.level) + 1

abbrev pub decreases-merge_cell : goal.decreases-merge_cell
decreases-merge_cell g l = 2 * (21 - l.spot.level)

abbrev pub invariant-merge_cell-loop-k : goal.invariant-merge_cell-loop-k
invariant-merge_cell-loop-k g l =
    (l.pass.table_id ≡ l.fn.pass.table_id) × (l.pass.me.1 ≡ l.fn.pass.me.1) × (l.used ≤ length l.spare)
    × IsMergedUpTo l.fn.pass.me.0 l.pass.me.0 l.points l.spare l.cell l.key l.spot.level l.below l.k l.used l.changes
    × (l.steps + 3 ≤ l.fn.steps + 3 + steps_before l.cell l.spot.level l.k) × (l.bodies ≡ risen 0 (length (bodies_before l.cell l.k)))
