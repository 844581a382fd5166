use Rattle.local_build.proofs.uncounted.UncountedSharedInsert.insert.Given as goal

abbrev pub ghosts-insert_alone : goal.ghosts-insert_alone
ghosts-insert_alone a = record { name = a.blank.name; parts = a.blank.parts }
