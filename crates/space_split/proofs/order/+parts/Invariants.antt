use Rattle.std.proofs.Common.{◌+◌, ◌*◌}
use Rattle.space_split.proofs.order.+parts.Given as goal

abbrev pub decreases-order_ranks : goal.decreases-order_ranks
decreases-order_ranks g l = 4 * l.workers + 3

abbrev pub decreases-order_both : goal.decreases-order_both
decreases-order_both g l = 4 * l.workers + 2

abbrev pub decreases-order_both-first : goal.decreases-order_both-first
decreases-order_both-first g l = 4 * l.workers + 1

abbrev pub decreases-order_both-second : goal.decreases-order_both-second
decreases-order_both-second g l = 4 * l.workers + 1
