use Rattle.mongo_generate_tests.proofs.tests.both_sides_accept.Given as goal

abbrev pub ghosts-generated : goal.ghosts-generated
ghosts-generated g a = record { name = a.blank.name; parts = a.blank.parts }
