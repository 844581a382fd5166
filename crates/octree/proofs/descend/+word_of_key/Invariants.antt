use Rattle.octree.proofs.descend.+word_of_key.Given as goal

abbrev pub decreases-word_of_key : goal.decreases-word_of_key
decreases-word_of_key l = l.key
