use Rattle.tree_passes.proofs.loads.load.Given as goal

abbrev pub ghosts-load_target : goal.ghosts-load_target
ghosts-load_target g a = record { point = a.p }
