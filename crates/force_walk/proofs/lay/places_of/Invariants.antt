use Rattle.std.proofs.Common.{◌≡◌, length, take}
use Rattle.force_walk.specs.Flat.{AreFound}
use Rattle.force_walk.proofs.lay.places_of.Given as goal

abbrev pub invariant-loop-at : goal.invariant-loop-at
invariant-loop-at l = record {
  long : length l.places.items ≡ l.count;
  found : AreFound (take l.at l.owners) l.places.items;
}
