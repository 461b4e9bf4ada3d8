use Rattle.mongo_settings_tests.proofs.tests.connecting.is_told.Given as goal

abbrev pub ghosts-connected_with : goal.ghosts-connected_with
ghosts-connected_with a = record { name = a.blank.name; parts = a.blank.parts }
