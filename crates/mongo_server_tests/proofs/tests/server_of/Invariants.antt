use Rattle.mongo_server_tests.proofs.tests.server_of.Given as goal

abbrev pub ghosts-user_with : goal.ghosts-user_with
ghosts-user_with a = record { name = a.blank.name; parts = a.blank.parts }
