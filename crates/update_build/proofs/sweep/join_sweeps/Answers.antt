use Rattle.std.proofs.Common.{rules}
use Rattle.update_build.specs.Sweeping.{opening_of}
use Rattle.update_build.proofs.Sweeping.{joins}
use Rattle.update_build.proofs.sweep.join_sweeps.Goals as goal

pub join_seat-requires : goal.join_seat-requires
join_seat-requires c = (search rules, search rules, search rules, search rules, joins (opening_of c.args.table.now.key) _ _ _ _)
