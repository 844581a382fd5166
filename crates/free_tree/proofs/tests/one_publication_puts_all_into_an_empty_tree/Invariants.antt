use Rattle.free_tree.proofs.tests.one_publication_puts_all_into_an_empty_tree.Given as goal

abbrev pub ghosts-merges_all : goal.ghosts-merges_all
ghosts-merges_all g a = record { name = a.blank.name; parts = a.blank.parts }
