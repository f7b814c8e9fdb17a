use Rattle.answer_tests.proofs.reading.what_a_query_reads.Given as goal

abbrev pub ghosts-readings : goal.ghosts-readings
ghosts-readings g a = record { name = a.blank.name; parts = a.blank.parts }
