use Rattle.std.proofs.Common.{ℕ, ◌≡◌, ◌+◌, ◌*◌, ◌<◌, ◌^◌, get_or, length}
use Rattle.update_build.specs.Contracting.{AreInside}
use Rattle.update_build.proofs.Editing.{AreLeft}
use Rattle.update_build.proofs.reading.+reading.Given as goal

abbrev pub decreases-read_word : goal.decreases-read_word
decreases-read_word l = 2 * l.depth

abbrev pub decreases-read_cell : goal.decreases-read_cell
decreases-read_cell l = 2 * l.below + 1

abbrev pub invariant-read_cell-loop-k : goal.invariant-read_cell-loop-k
invariant-read_cell-loop-k l =
    AreLeft l.points l.words.items (l.below + 1) l.key l.cell l.k l.fn.edits.items l.edits.items l.children
    × AreInside (length l.words.items) l.edits.items
    × (length l.children ≡ 8)
    × ((j : ℕ) → j < l.k → get_or l.children j 0 < 2 ^ 33)
