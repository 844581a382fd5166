use Rattle.locked_tree.proofs.tree.LockedTree.merge.Given as goal

abbrev pub ghosts-merge_from : goal.ghosts-merge_from
ghosts-merge_from g a = record { name = a.blank.name; parts = a.blank.parts }
