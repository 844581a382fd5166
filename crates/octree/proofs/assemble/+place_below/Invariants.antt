use Rattle.octree.proofs.assemble.+place_below.Given as goal

abbrev pub decreases-place_below : goal.decreases-place_below
decreases-place_below l = l.key
