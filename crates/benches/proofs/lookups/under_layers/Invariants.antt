use Rattle.benches.proofs.lookups.under_layers.Given as goal

abbrev pub ghosts-timed : goal.ghosts-timed
ghosts-timed a = record { name = a.blank.name; parts = a.blank.parts }
