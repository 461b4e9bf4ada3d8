use Rattle.mongo_service.proofs.Responses.{front_written}
use Rattle.mongo_service.proofs.respond.send_bytes.Goals as goal

pub returns-in-Err-flush-clause-front : goal.returns-in-Err-flush-clause-front
returns-in-Err-flush-clause-front g c =
    front_written (g.K.Outside.state c.args.sink.now).written (g.K.Outside.state c.write_all.new.sink).written (g.K.Outside.state c.flush.new.self).written c.args.bytes.now c.in-Ok.ensures.written c.in-Err-flush.ensures.bytes
