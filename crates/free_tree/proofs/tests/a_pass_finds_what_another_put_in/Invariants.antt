use Rattle.free_tree.proofs.tests.a_pass_finds_what_another_put_in.Given as goal

abbrev pub ghosts-finds_the_others_body : goal.ghosts-finds_the_others_body
ghosts-finds_the_others_body g a = record { name = a.blank.name; parts = a.blank.parts }
