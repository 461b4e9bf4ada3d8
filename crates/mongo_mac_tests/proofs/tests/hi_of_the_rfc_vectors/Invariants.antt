use Rattle.mongo_mac_tests.proofs.tests.hi_of_the_rfc_vectors.Given as goal

abbrev pub ghosts-derived : goal.ghosts-derived
ghosts-derived g a = record { name = a.blank.name; parts = a.blank.parts }

abbrev pub ghosts-derived-2 : goal.ghosts-derived-2
ghosts-derived-2 g a = record { name = a.blank.name; parts = a.blank.parts }
