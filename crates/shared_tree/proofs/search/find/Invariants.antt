use Rattle.std.proofs.Common.{◌≡◌, ◌+◌, ◌<◌, ◌≤◌}
use Rattle.octant_code.specs.declared.limits.TheConstants.{LEVELS}
use Rattle.octant_code.specs.Space.{key_of}
use Rattle.tree_passes.specs.Passes.{KnowsPlace}
use Rattle.tree_passes.specs.Turns.{IsStill}
use Rattle.shared_tree.proofs.search.find.Given as goal

abbrev pub invariant-loop-level : goal.invariant-loop-level
invariant-loop-level g l =
    (l.pass.table_id ≡ l.fn.pass.table_id) × (l.pass.me.1 ≡ l.fn.pass.me.1) × (l.word < l.table.table_id.words) × (l.level ≤ LEVELS)
    × KnowsPlace l.pass.me.0 l.word (key_of l.p l.level) × IsStill l.fn.pass.me.0 l.pass.me.0 × (l.pass.me.0.under ≡ l.fn.pass.me.0.under)
    × (l.steps ≤ l.fn.steps + l.level)
