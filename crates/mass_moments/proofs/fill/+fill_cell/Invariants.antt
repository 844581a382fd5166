use Rattle.std.proofs.Common.{◌<◌, length}
use Rattle.octree.specs.Spot.{tree_under}
use Rattle.bh_model.specs.Trees.{height}
use Rattle.mass_moments.proofs.Fillings.{AreFilledUpTo}
use Rattle.mass_moments.specs.Centred.{AreCentred}
use Rattle.bh_model.specs.Zones.{cost_at}
use Rattle.mass_moments.specs.Kept.{matter_of}
use Rattle.mass_moments.proofs.fill.+fill_cell.Given as goal

abbrev pub decreases-fill_cell : goal.decreases-fill_cell
decreases-fill_cell l = height (tree_under l.cell)

abbrev pub invariant-loop-k : goal.invariant-loop-k
invariant-loop-k l = record {
  filled : AreFilledUpTo (matter_of l.bodies) (cost_at l.costs) l.cell l.k l.initial.list l.list l.whole;
  centred : AreCentred l.list l.centres;
  below_within : l.below < length l.list;
}
