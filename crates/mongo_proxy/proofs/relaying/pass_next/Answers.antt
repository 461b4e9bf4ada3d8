use Rattle.mongo_wire.specs.Header.{maximum_of}
use Rattle.mongo_proxy.specs.Sides.{sides}
use Rattle.mongo_proxy.proofs.Turns.{turn_of_command, turn_of_reply}
use Rattle.mongo_proxy.proofs.relaying.pass_next.Goals as goal

pub returns-in-Command-clause-ends : goal.returns-in-Command-clause-ends
returns-in-Command-clause-ends g c =
    turn_of_command (maximum_of c.args.max) (sides (g.C.Outside.state c.args.client.now) (g.S.Outside.state c.args.server.now)) (sides (g.C.Outside.state c.pass_command.new.client) (g.S.Outside.state c.pass_command.new.server))
    c.args.awaited c.args.ids.now c.pass_command.new.ids c.pass_command.result c.in-Command.is c.pass_command.ensures.ends

pub returns-in-Ok-clause-ends : goal.returns-in-Ok-clause-ends
returns-in-Ok-clause-ends g c =
    turn_of_reply (maximum_of c.args.max) (sides (g.C.Outside.state c.args.client.now) (g.S.Outside.state c.args.server.now)) (sides (g.C.Outside.state c.pass_reply.new.client) (g.S.Outside.state c.pass_reply.new.server))
    c.args.awaited c.in-Reply.asked c.in-Ok.next c.args.ids.now c.in-Reply.is (c.in-Ok.ensures.ends c.args.ids.now)
