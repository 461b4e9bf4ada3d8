use Rattle.std.proofs.Common.{rules, subst, ap, ◌∙◌, FitsSigned}
use Rattle.std.specs.Int.{w32}
use Rattle.std.proofs.lemmas.Int.{to_z-of_z}
use Rattle.std.specs.Io.KnownBytes.{Appends}
use Rattle.mongo_wire.specs.Header.{maximum_of}
use Rattle.mongo_wire.specs.Outside.{WriteStops}
use Rattle.mongo_proxy.specs.RelayedFrames.{responds_to}
use Rattle.mongo_proxy.proofs.OnePassed.{read_fits, reply_passed, reply_cut}
use Rattle.mongo_proxy.proofs.Sends.{same_ids}
use Rattle.mongo_proxy.proofs.passing.pass_reply.Goals as goal

pub send-requires : goal.send-requires
send-requires g c = read_fits (maximum_of c.args.maximum) (g.S.Outside.state c.args.server.now) (g.S.Outside.state c.read.new.source) c.in-Ok.reply c.in-Ok.ensures.read

pub returns-in-Ok-send-clause-ends : goal.returns-in-Ok-send-clause-ends
returns-in-Ok-send-clause-ends g c =
    let maximum = maximum_of c.args.maximum in
    let old = g.C.Outside.state c.args.client.now in
    let new = g.C.Outside.state c.send.new.sink in
    let s = g.S.Outside.state c.args.server.now in
    let t = g.S.Outside.state c.read.new.source in
    let r = c.in-Ok.reply in
    let to = c.responds_to-to.result in
    let fits : FitsSigned w32 r.header.response_to = search rules in
    let id : FitsSigned w32 r.header.request_id = search rules in
    let re : FitsSigned w32 to = search rules in
    let responds = c.responds_to-to.ensures ∙ ap (responds_to c.args.asked) (to_z-of_z w32 r.header.response_to fits) in
    let sent = subst (Appends old.written new.written) (same_ids r.header.request_id to r.flags.0 r.sections.now id re) c.in-Ok-send.ensures.sent in
    λ _. reply_passed maximum old new s t r c.args.asked to c.awaited_after_reply.result c.in-Ok.ensures.read c.in-Ok.ensures.on responds sent c.in-Ok-send.ensures.flushed c.in-Ok-send.ensures.writes c.in-Ok-send.ensures.on c.awaited_after_reply.ensures

pub returns-in-Err-send-clause-ends : goal.returns-in-Err-send-clause-ends
returns-in-Err-send-clause-ends g c =
    let maximum = maximum_of c.args.maximum in
    let old = g.C.Outside.state c.args.client.now in
    let new = g.C.Outside.state c.send.new.sink in
    let s = g.S.Outside.state c.args.server.now in
    let t = g.S.Outside.state c.read.new.source in
    let r = c.in-Ok.reply in
    let to = c.responds_to-to.result in
    let fits : FitsSigned w32 r.header.response_to = search rules in
    let id : FitsSigned w32 r.header.request_id = search rules in
    let re : FitsSigned w32 to = search rules in
    let responds = c.responds_to-to.ensures ∙ ap (responds_to c.args.asked) (to_z-of_z w32 r.header.response_to fits) in
    let stops = subst (WriteStops c.in-Err-send.error.kind old new) (same_ids r.header.request_id to r.flags.0 r.sections.now id re) c.in-Err-send.ensures.refused in
    λ last. reply_cut maximum old new s t r c.args.asked to last c.in-Err-send.error.kind c.in-Ok.ensures.read c.in-Ok.ensures.on responds stops c.in-Err-send.ensures.on
