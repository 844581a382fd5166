use Rattle.std.proofs.Common.{◌≡◌, take}
use Rattle.update_build.specs.Moving.{ArePlacesOf}
use Rattle.update_build.specs.Staying.{movers_in}
use Rattle.update_build.proofs.movers.search_share.Given as goal

abbrev pub invariant-loop-i : goal.invariant-loop-i
invariant-loop-i l =
    (l.movers.items ≡ movers_in l.old l.new (take l.i l.share)) × ArePlacesOf l.words.items l.movers.items l.places.items
