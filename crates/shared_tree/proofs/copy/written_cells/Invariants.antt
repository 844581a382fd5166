use Rattle.std.proofs.Common.{◌≡◌, ◌+◌, ◌<◌, ◌≤◌, ℕ}
use Rattle.std.specs.Slots.{slots_items}
use Rattle.tree_rule.specs.Words.{at_of, key_place}
use Rattle.shared_tree.proofs.copy.written_cells.Given as goal

abbrev pub invariant-loop : goal.invariant-loop
invariant-loop l =
    (l.written + l.counter ≡ l.cells)
    × ((c : ℕ) → l.written ≤ c → c < l.cells → at_of (slots_items l.closed.words) (key_place c) ≡ 0)
