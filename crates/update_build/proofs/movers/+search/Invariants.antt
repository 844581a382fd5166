use Rattle.std.proofs.Common.{◌+◌, ◌*◌, length}
use Rattle.update_build.proofs.movers.+search.Given as goal

abbrev pub decreases-search_shares : goal.decreases-search_shares
decreases-search_shares g l = 2 * length l.shares.now

abbrev pub decreases-others : goal.decreases-others
decreases-others g l = 2 * length l.front.now + 1
