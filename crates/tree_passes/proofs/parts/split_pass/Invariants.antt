use Rattle.tree_passes.proofs.parts.split_pass.Given as goal

abbrev pub ghosts-split_share : goal.ghosts-split_share
ghosts-split_share a = record { cells = a.cells.now; bodies = a.bodies.now; quota = a.quota }
