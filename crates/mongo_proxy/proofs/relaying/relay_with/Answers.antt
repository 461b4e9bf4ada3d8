use Rattle.std.proofs.Common.{subst, ap, ◌∙◌, ◌≡◌, Ok, None, Some, arith}
use Rattle.mongo_wire.specs.Header.{maximum_of}
use Rattle.mongo_proxy.specs.RelayedFrames.{stand}
use Rattle.mongo_proxy.specs.Sides.{sides}
use Rattle.mongo_proxy.specs.Turn.{TurnEnds}
use Rattle.mongo_proxy.proofs.History.{begun, one_more, few_counted, went_on, has_ended, was_cut}
use Rattle.mongo_proxy.proofs.Turns.{stays_on, stays_still}
use Rattle.mongo_proxy.proofs.relaying.relay_with.Goals as goal

pub relaying-init : goal.relaying-init
relaying-init g c =
    let maximum = maximum_of c.args.max in
    (begun maximum c.args.ids.now (sides (g.C.Outside.state c.args.client.now) (g.S.Outside.state c.args.server.now)), stays_still maximum c.args.buffers.now.commands, stays_still maximum c.args.buffers.now.replies)

pub counted-done-requires : goal.counted-done-requires
counted-done-requires g c =
    let few = few_counted _ _ _ _ _ c.relaying._turn c.relaying.done c.relaying.invariant.0 in
    omega (arith, few, c.ranges.most.fits)

pub returns-in-Ok-None-clause-relays : goal.returns-in-Ok-None-clause-relays
returns-in-Ok-None-clause-relays g c =
    let maximum = maximum_of c.args.max in
    let old = sides (g.C.Outside.state c.args.client.now) (g.S.Outside.state c.args.server.now) in
    let mid = sides (g.C.Outside.state c.relaying.client) (g.S.Outside.state c.relaying.server) in
    let new = sides (g.C.Outside.state c.pass_next.new.client) (g.S.Outside.state c.pass_next.new.server) in
    let before = stand c.relaying.awaited c.relaying.ids in
    let result : c.pass_next.result ≡ Ok None = c.in-Ok-None.is ∙ ap Ok c.in-Ok-None.field-0-is in
    has_ended maximum c.args.ids.now c.pass_next.new.ids old mid new before c.relaying._turn c.args.most c.relaying.done (omega arith) c.relaying.invariant.0
    (subst (TurnEnds maximum before mid new c.pass_next.new.ids) result c.pass_next.ensures.ends)

pub returns-in-Err-clause-relays : goal.returns-in-Err-clause-relays
returns-in-Err-clause-relays g c =
    let maximum = maximum_of c.args.max in
    let old = sides (g.C.Outside.state c.args.client.now) (g.S.Outside.state c.args.server.now) in
    let mid = sides (g.C.Outside.state c.relaying.client) (g.S.Outside.state c.relaying.server) in
    let new = sides (g.C.Outside.state c.pass_next.new.client) (g.S.Outside.state c.pass_next.new.server) in
    let before = stand c.relaying.awaited c.relaying.ids in
    was_cut maximum c.args.ids.now c.pass_next.new.ids old mid new before c.relaying._turn c.args.most c.relaying.done c.in-Err.stop (omega arith) c.relaying.invariant.0
    (subst (TurnEnds maximum before mid new c.pass_next.new.ids) c.in-Err.is c.pass_next.ensures.ends)

pub relaying-preserved : goal.relaying-preserved
relaying-preserved g c =
    let maximum = maximum_of c.args.max in
    let old = sides (g.C.Outside.state c.args.client.now) (g.S.Outside.state c.args.server.now) in
    let mid = sides (g.C.Outside.state c.relaying.client) (g.S.Outside.state c.relaying.server) in
    let new = sides (g.C.Outside.state c.pass_next.new.client) (g.S.Outside.state c.pass_next.new.server) in
    let before = stand c.relaying.awaited c.relaying.ids in
    let after = stand c.in-Ok-Some.next c.pass_next.new.ids in
    let result : c.pass_next.result ≡ Ok (Some c.in-Ok-Some.next) = c.in-Ok-Some.is ∙ ap Ok c.in-Ok-Some.field-0-is in
    let more = one_more maximum c.args.ids.now old mid new before after c.relaying._turn c.relaying.done c.relaying.invariant.0 (subst (TurnEnds maximum before mid new c.pass_next.new.ids) result c.pass_next.ensures.ends) in (
      rw c.counted-done.ensures more,
      stays_on maximum c.args.buffers.now.commands c.relaying.buffers.commands c.pass_next.new.buffers.commands c.relaying.invariant.1 c.pass_next.ensures.command_memory,
      stays_on maximum c.args.buffers.now.replies c.relaying.buffers.replies c.pass_next.new.buffers.replies c.relaying.invariant.2 c.pass_next.ensures.reply_memory,
    )

pub returns-clause-relays : goal.returns-clause-relays
returns-clause-relays g c =
    went_on (maximum_of c.args.max) c.args.ids.now (sides (g.C.Outside.state c.args.client.now) (g.S.Outside.state c.args.server.now)) (sides (g.C.Outside.state c.relaying.client) (g.S.Outside.state c.relaying.server))
    (stand c.relaying.awaited c.relaying.ids) c.relaying._turn c.args.most c.relaying.done (omega arith) c.relaying.invariant.0
