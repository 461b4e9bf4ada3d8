use Rattle.mongo_scram_tests.proofs.tests.logins.fault_in_memory.Given as goal

abbrev pub ghosts-fault_over : goal.ghosts-fault_over
ghosts-fault_over a = record { name = a.blank.name; parts = a.blank.parts }
