use Rattle.update_build.proofs.sweep.split_sweep.Given as goal

abbrev pub ghosts-split_places : goal.ghosts-split_places
ghosts-split_places a = record { places = a.places.now }
