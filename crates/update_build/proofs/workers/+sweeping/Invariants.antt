use Rattle.std.proofs.Common.{◌+◌, ◌*◌, length}
use Rattle.update_build.proofs.workers.+sweeping.Given as goal

abbrev pub decreases-empty_lists : goal.decreases-empty_lists
decreases-empty_lists g l = 4 * length l.lists.now

abbrev pub decreases-empty_both : goal.decreases-empty_both
decreases-empty_both g l = 4 * length l.front.now + 2

abbrev pub decreases-empty_both-join_mut+arg3 : goal.decreases-empty_both-join_mut+arg3
decreases-empty_both-join_mut+arg3 g l = 4 * length l.front.now + 1
