use Rattle.octree.specs.Growing.{ArePlaced}
use Rattle.octree.proofs.assemble.make_places.Given as goal

abbrev pub invariant-loop-part : goal.invariant-loop-part
invariant-loop-part l = ArePlaced l.points l.parts l.words.items l.places.items l.part-index
