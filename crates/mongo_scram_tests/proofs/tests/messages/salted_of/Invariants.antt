use Rattle.mongo_scram_tests.proofs.tests.messages.salted_of.Given as goal

abbrev pub ghosts-salted_with : goal.ghosts-salted_with
ghosts-salted_with a = record { name = a.blank.name; parts = a.blank.parts }
