use Rattle.update_build.specs.Sweeping.{opening_of}
use Rattle.update_build.proofs.Sweeping.{ends}
use Rattle.update_build.proofs.sweep.close_sweep.Goals as goal

pub returns-clause-swept : goal.returns-clause-swept
returns-clause-swept c = ends (opening_of c.args.table.shared.key) _ _ _ _ c.close_with.ensures.values.2 c.requires.all
