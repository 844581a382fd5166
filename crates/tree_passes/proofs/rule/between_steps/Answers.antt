use Rattle.tree_passes.specs.Opening.{opening_of}
use Rattle.tree_passes.proofs.Between.{between_of}
use Rattle.tree_passes.proofs.rule.between_steps.Goals as goal

pub returns : goal.returns
returns c = between_of c.args.table.now.key.writing (opening_of c.args.table.now.key)
