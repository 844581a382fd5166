-- Both rules have in them what both trees share, and keep quiet steps, splits and joins.
use Rattle.atomic_table.specs.Table.{State}
use Rattle.tree_passes.specs.declared.view.View.{View}
use Rattle.tree_passes.specs.declared.view.Writing.{Writing}
use Rattle.tree_passes.specs.declared.view.Writing.TheVariants.{ByExchange, UnderLocks}
use Rattle.tree_passes.specs.Opening.{Opening}
use Rattle.tree_passes.specs.Rule.{Kept}
use Rattle.tree_passes.specs.Rules.{RuleOf}
use Rattle.tree_passes.proofs.Keeps.{IsKeptByJoins, IsKeptByQuiet, IsKeptBySplits}
use Rattle.tree_passes.proofs.FreeSteps.{free_joins, free_quiet, free_splits}
use Rattle.tree_passes.proofs.LockedRule.{locked_joins, locked_quiet, locked_splits}

pub kept_of : (k : Writing) (o : Opening) (s : State (Unit {0}) View) → RuleOf k o s → Kept o s
kept_of ByExchange o s f = f.kept
kept_of UnderLocks o s f = f.kept

pub quiet_of : (k : Writing) (o : Opening) → IsKeptByQuiet o (RuleOf k o)
quiet_of ByExchange o = free_quiet o
quiet_of UnderLocks o = locked_quiet o

pub splits_of : (k : Writing) (o : Opening) → IsKeptBySplits (RuleOf k o)
splits_of ByExchange o = free_splits o
splits_of UnderLocks o = locked_splits o

pub joins_of : (k : Writing) (o : Opening) → IsKeptByJoins (RuleOf k o)
joins_of ByExchange o = free_joins o
joins_of UnderLocks o = locked_joins o
