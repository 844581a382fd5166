use Rattle.std.proofs.Common.{◌+◌, ◌*◌}
use Rattle.update_build.proofs.readers.+reading.Given as goal

abbrev pub decreases-read_all : goal.decreases-read_all
decreases-read_all g l = 2 * l.count

abbrev pub decreases-others : goal.decreases-others
decreases-others g l = 2 * l.worker + 1
