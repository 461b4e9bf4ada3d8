use Rattle.mongo_hello.proofs.main.Given as goal

abbrev pub ghosts-connected : goal.ghosts-connected
ghosts-connected a = record { name = a.blank.name; parts = a.blank.parts }
