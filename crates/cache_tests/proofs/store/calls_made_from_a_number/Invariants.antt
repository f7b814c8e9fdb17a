use Rattle.cache_tests.proofs.store.calls_made_from_a_number.Given as goal

abbrev pub ghosts-calls : goal.ghosts-calls
ghosts-calls g a = record { name = a.blank.name; parts = a.blank.parts }
