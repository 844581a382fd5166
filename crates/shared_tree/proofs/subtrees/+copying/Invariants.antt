use Rattle.std.proofs.Common.{◌+◌, ◌-◌, ◌*◌, ◌≡◌, ◌≤◌, length}
use Rattle.shared_tree.specs.Seen.{risen}
use Rattle.shared_tree.proofs.MergeParts.{bodies_before}
use Rattle.shared_tree.proofs.PartCopies.{IsGathered}
use Rattle.shared_tree.proofs.subtrees.+copying.Given as goal

abbrev pub decreases-copy_part : goal.decreases-copy_part
decreases-copy_part l = 2 * (21 - l.cube.level) + 1

abbrev pub decreases-copy_cell : goal.decreases-copy_cell
decreases-copy_cell l = 2 * (21 - l.cube.level)

abbrev pub invariant-copy_cell-loop-k : goal.invariant-copy_cell-loop-k
invariant-copy_cell-loop-k l =
    (l.pass.table_id ≡ l.fn.pass.table_id) × (l.pass.me.1 ≡ l.fn.pass.me.1) × (l.used ≤ length l.spare)
    × IsGathered l.points l.fn.pass.me.0 l.pass.me.0 l.spare l.cell l.other l.cube.key l.cube.level l.k l.used l.top l.children
    × (l.bodies ≡ risen 0 (length (bodies_before l.cell l.k)))
