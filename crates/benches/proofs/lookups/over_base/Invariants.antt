use Rattle.benches.proofs.lookups.over_base.Given as goal

abbrev pub ghosts-timed : goal.ghosts-timed
ghosts-timed a = record { name = a.blank.name; parts = a.blank.parts }
