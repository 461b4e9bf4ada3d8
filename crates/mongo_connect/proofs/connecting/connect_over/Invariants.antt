use Rattle.mongo_connect.proofs.connecting.connect_over.Given as goal

-- what the link means as its recording begins
abbrev pub ghosts-record_over : goal.ghosts-record_over
ghosts-record_over g a = record { origin = g.L.Outside.state a.link }
