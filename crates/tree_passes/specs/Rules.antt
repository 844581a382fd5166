-- The rule of a table, by how its published words are written.
use Rattle.atomic_table.specs.Table.{State}
use Rattle.tree_passes.specs.declared.view.View.{View}
use Rattle.tree_passes.specs.declared.view.Writing.{Writing}
use Rattle.tree_passes.specs.declared.view.Writing.TheVariants.{ByExchange, UnderLocks}
use Rattle.tree_passes.specs.Opening.{Opening}
use Rattle.tree_passes.specs.Rule.{Free}
use Rattle.tree_passes.specs.Locks.{Locked}

-- the rule without locks, or the one with them
abbrev pub RuleOf : Writing → Opening → State (Unit {0}) View → Type 0
RuleOf ByExchange o = Free o
RuleOf UnderLocks o = Locked o
