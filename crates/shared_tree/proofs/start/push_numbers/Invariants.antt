use Rattle.std.proofs.Common.{◌≡◌, ◌++◌}
use Rattle.tree_passes.specs.Counting.{numbers_from}
use Rattle.shared_tree.proofs.start.push_numbers.Given as goal

abbrev pub invariant-loop-i : goal.invariant-loop-i
invariant-loop-i l = l.list.items ≡ l.fn.list.items ++ numbers_from l.first l.i
