use Rattle.answer_benches.proofs.reads.timed.Given as goal

abbrev pub ghosts-readings : goal.ghosts-readings
ghosts-readings a = record { name = a.blank.name; parts = a.blank.parts }
