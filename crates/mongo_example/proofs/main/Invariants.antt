use Rattle.mongo_example.proofs.main.Given as goal

abbrev pub ghosts-two_connections : goal.ghosts-two_connections
ghosts-two_connections a = record { name = a.blank.name; parts = a.blank.parts }
