use Rattle.std.proofs.Common.{◌≡◌}
use Rattle.bh_model.proofs.PullSums.{pull_upto}
use Rattle.bh_model.specs.Trees.{height}
use Rattle.octree.specs.Spot.{child_under, tree_under}
use Rattle.force_walk.specs.Views.{seen}
use Rattle.force_walk.proofs.Flats.{child_pull}
use Rattle.force_walk.proofs.one_body.+pull_below.Given as goal

abbrev pub decreases-pull_below : goal.decreases-pull_below
decreases-pull_below l = height (tree_under l.at.now)

abbrev pub invariant-loop-k : goal.invariant-loop-k
invariant-loop-k l = l.sum ≡ pull_upto (child_pull l.view.law.now (seen l.view) l.view.n l.down l.key (child_under l.cell)) l.k
