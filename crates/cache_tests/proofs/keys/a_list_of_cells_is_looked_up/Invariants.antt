use Rattle.cache_tests.proofs.keys.a_list_of_cells_is_looked_up.Given as goal

abbrev pub ghosts-looks : goal.ghosts-looks
ghosts-looks g a = record { name = a.blank.name; parts = a.blank.parts }
