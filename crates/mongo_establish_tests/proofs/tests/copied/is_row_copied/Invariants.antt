use Rattle.mongo_establish_tests.proofs.tests.copied.is_row_copied.Given as goal

abbrev pub ghosts-is_made_copied : goal.ghosts-is_made_copied
ghosts-is_made_copied a = record { name = a.blank.name; parts = a.blank.parts }
