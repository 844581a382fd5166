use Rattle.library_rows.proofs.private_trees.one_worker_publishes_four_bodies_at_once.Given as goal

abbrev pub ghosts-merged_alone : goal.ghosts-merged_alone
ghosts-merged_alone g a = record { name = a.blank.name; parts = a.blank.parts }
