use Rattle.std.proofs.Common.{rules, subst, ap, ◌∙◌, IfSome, FitsSigned, to_z, of_z}
use Rattle.std.specs.Int.{w32}
use Rattle.std.specs.Io.KnownBytes.{Appends}
use Rattle.std.proofs.lemmas.Int.{to_z-of_z}
use Rattle.mongo_wire.specs.Header.{maximum_of}
use Rattle.mongo_wire.specs.Outside.{WriteStops}
use Rattle.mongo_wire.specs.Ref.{IsFrameRead}
use Rattle.mongo_wire.specs.Sending.{sections_frame}
use Rattle.mongo_proxy.specs.RelayedFrames.{after_command}
use Rattle.mongo_proxy.proofs.OnePassed.{read_fits, command_passed, command_cut}
use Rattle.mongo_proxy.proofs.Sends.{same_ids}
use Rattle.mongo_proxy.proofs.passing.pass_command.Goals as goal

pub send-requires : goal.send-requires
send-requires g c =
    let maximum = maximum_of c.args.maximum in
    let old = g.C.Outside.state c.args.client.now in
    let new = g.C.Outside.state c.next.new.source in
    let read = subst (λ found. IfSome found (IsFrameRead maximum old new)) c.in-Ok-Some.field-0-is c.in-Ok-Some.ensures.read in
    read_fits maximum old new c.in-Ok-Some.command read

pub returns-in-Ok-clause-ends : goal.returns-in-Ok-clause-ends
returns-in-Ok-clause-ends g c =
    let maximum = maximum_of c.args.maximum in
    let old = g.C.Outside.state c.args.client.now in
    let new = g.C.Outside.state c.next.new.source in
    let s = g.S.Outside.state c.args.server.now in
    let t = g.S.Outside.state c.send.new.sink in
    let r = c.in-Ok-Some.command in
    let read = subst (λ found. IfSome found (IsFrameRead maximum old new)) c.in-Ok-Some.field-0-is c.in-Ok-Some.ensures.read in
    let id : FitsSigned w32 c.draw-id.result = search rules in
    let to : FitsSigned w32 r.header.response_to = search rules in
    let sent =
    subst (λ d. Appends s.written t.written (sections_frame d r.header.response_to r.flags.0 r.sections.now)) c.draw-id.ensures.drawn (subst (Appends s.written t.written) (same_ids c.draw-id.result r.header.response_to r.flags.0 r.sections.now id to) c.in-Ok.ensures.sent) in
    let original : FitsSigned w32 r.header.request_id = search rules in
    let awaits =
    c.awaited_after_command.ensures ∙ ap (λ i. after_command r.flags.0 (record { original_id = i; drawn_id = to_z w32 (of_z w32 c.draw-id.result) })) (to_z-of_z w32 r.header.request_id original)
    ∙ ap (λ d. after_command r.flags.0 (record { original_id = r.header.request_id; drawn_id = d })) (to_z-of_z w32 c.draw-id.result id ∙ c.draw-id.ensures.drawn) in
    command_passed maximum old new s t r c.args.ids.now c.draw-id.new.self c.awaited_after_command.result read c.in-Ok-Some.ensures.on sent c.in-Ok.ensures.flushed c.in-Ok.ensures.writes c.in-Ok.ensures.on awaits c.draw-id.ensures.next

pub returns-in-Err-send-clause-ends : goal.returns-in-Err-send-clause-ends
returns-in-Err-send-clause-ends g c =
    let maximum = maximum_of c.args.maximum in
    let old = g.C.Outside.state c.args.client.now in
    let new = g.C.Outside.state c.next.new.source in
    let s = g.S.Outside.state c.args.server.now in
    let t = g.S.Outside.state c.send.new.sink in
    let r = c.in-Ok-Some.command in
    let read = subst (λ found. IfSome found (IsFrameRead maximum old new)) c.in-Ok-Some.field-0-is c.in-Ok-Some.ensures.read in
    let id : FitsSigned w32 c.draw-id.result = search rules in
    let to : FitsSigned w32 r.header.response_to = search rules in
    let stops =
    subst (λ d. WriteStops c.in-Err-send.error.kind s t (sections_frame d r.header.response_to r.flags.0 r.sections.now)) c.draw-id.ensures.drawn (subst (WriteStops c.in-Err-send.error.kind s t) (same_ids c.draw-id.result r.header.response_to r.flags.0 r.sections.now id to) c.in-Err-send.ensures.refused) in
    command_cut maximum old new s t r c.args.ids.now c.draw-id.new.self c.in-Err-send.error.kind read c.in-Ok-Some.ensures.on stops c.in-Err-send.ensures.on c.draw-id.ensures.next
