use Rattle.cache_tests.proofs.store.each_call_reads_what_was_filled.Given as goal

abbrev pub ghosts-reads : goal.ghosts-reads
ghosts-reads g a = record { name = a.blank.name; parts = a.blank.parts }
