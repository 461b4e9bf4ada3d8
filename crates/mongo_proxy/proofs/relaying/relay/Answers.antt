use Rattle.mongo_wire.specs.Header.{maximum_of}
use Rattle.mongo_proxy.specs.Sides.{sides}
use Rattle.mongo_proxy.proofs.Scripts.{completes}
use Rattle.mongo_proxy.proofs.relaying.relay.Goals as goal

pub returns-clause-completes : goal.returns-clause-completes
returns-clause-completes g c =
    completes (maximum_of c.args.max) c.args.ids.now c.relay_with.new.ids c.args.most (sides (g.C.Outside.state c.args.client.now) (g.S.Outside.state c.args.server.now)) (sides (g.C.Outside.state c.relay_with.new.client) (g.S.Outside.state c.relay_with.new.server))
    c.relay_with.result c.relay_with.ensures.relays
