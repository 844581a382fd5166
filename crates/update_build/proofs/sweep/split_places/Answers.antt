use Rattle.std.proofs.Common.{rules}
use Rattle.update_build.specs.Sweeping.{opening_of}
use Rattle.update_build.proofs.Sweeping.{splits}
use Rattle.update_build.proofs.sweep.split_places.Goals as goal

pub split_seat-requires : goal.split_seat-requires
split_seat-requires g c = (search rules, search rules, splits (opening_of c.args.table.now.key) _ _ g.P.Places.places c.requires.places)
