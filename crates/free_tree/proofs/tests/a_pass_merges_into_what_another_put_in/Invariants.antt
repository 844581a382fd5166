use Rattle.free_tree.proofs.tests.a_pass_merges_into_what_another_put_in.Given as goal

abbrev pub ghosts-merges_into_half_a_tree : goal.ghosts-merges_into_half_a_tree
ghosts-merges_into_half_a_tree g a = record { name = a.blank.name; parts = a.blank.parts }
