use Rattle.mongo_establish_tests.proofs.tests.kept_faults.over_failing.Given as goal

abbrev pub ghosts-keeps_over : goal.ghosts-keeps_over
ghosts-keeps_over a = record { name = a.blank.name; parts = a.blank.parts }
