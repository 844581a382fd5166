use Rattle.std.proofs.Common.{rules}
use Rattle.update_build.specs.Sweeping.{opening_of}
use Rattle.update_build.proofs.Sweeping.{removes}
use Rattle.update_build.proofs.sweep.empty_word.Goals as goal

pub store-requires : goal.store-requires
store-requires c = (search rules, c.requires.inside, removes (opening_of c.args.table.now.key) _ _ _ c.args.place c.requires.todo)
