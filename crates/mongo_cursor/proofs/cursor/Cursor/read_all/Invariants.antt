use Rattle.mongo_command.specs.EndsExchange.{footing}
use Rattle.mongo_cursor.proofs.Reading.{Come}
use Rattle.mongo_cursor.proofs.cursor.Cursor.read_all.Given as goal

abbrev pub invariant-calls : goal.invariant-calls
invariant-calls g l = Come g.L.Outside.state l.fn.self l.self l.fn.out l.out l.call (footing l.fn.connection l.fn.link l.fn.ids) (footing l.connection l.link l.ids)
