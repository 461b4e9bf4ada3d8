use Rattle.std.proofs.Common.{rules, subst, FitsSigned}
use Rattle.std.specs.Int.{w32}
use Rattle.std.specs.Io.KnownBytes.{Appends}
use Rattle.std.proofs.KnownBytes.{Appends-kept}
use Rattle.mongo_wire.specs.Outside.{WriteStops}
use Rattle.mongo_proxy.proofs.Sends.{unsent_stops, unflushed_stops, same_ids}
use Rattle.mongo_proxy.proofs.passing.send.Goals as goal

pub returns-in-Err-clause-refused : goal.returns-in-Err-clause-refused
returns-in-Err-clause-refused g c =
    let s = g.K.Outside.state c.args.sink.now in
    let t = g.K.Outside.state c.write_sections.new.sink in
    let m = c.args.message in
    let id : FitsSigned w32 c.args.request_id = search rules in
    let to : FitsSigned w32 c.args.response_to = search rules in
    subst (WriteStops c.in-Err.error.kind s t) (same_ids c.args.request_id c.args.response_to m.flags.0 m.sections.now id to) (unsent_stops c.in-Err.error.kind _ m.sections.now _ s t c.requires c.in-Err.ensures.refused)

pub returns-in-Ok-flush-clause-sent : goal.returns-in-Ok-flush-clause-sent
returns-in-Ok-flush-clause-sent g c =
    let s = g.K.Outside.state c.args.sink.now in
    let t = g.K.Outside.state c.flush.new.self in
    let m = c.args.message in
    let id : FitsSigned w32 c.args.request_id = search rules in
    let to : FitsSigned w32 c.args.response_to = search rules in
    subst (Appends s.written t.written) (same_ids c.args.request_id c.args.response_to m.flags.0 m.sections.now id to)
    (Appends-kept s.written (g.K.Outside.state c.write_sections.new.sink).written t.written _ c.in-Ok.ensures.written c.in-Ok-flush.ensures.bytes)

pub returns-in-Err-flush-clause-refused : goal.returns-in-Err-flush-clause-refused
returns-in-Err-flush-clause-refused g c =
    let s = g.K.Outside.state c.args.sink.now in
    let t = g.K.Outside.state c.flush.new.self in
    let m = c.args.message in
    let id : FitsSigned w32 c.args.request_id = search rules in
    let to : FitsSigned w32 c.args.response_to = search rules in
    subst (WriteStops c.into.result.kind s t) (same_ids c.args.request_id c.args.response_to m.flags.0 m.sections.now id to)
    (unflushed_stops c.in-Err-flush.fault c.into.result.kind s (g.K.Outside.state c.write_sections.new.sink) t _ c.into.ensures c.in-Ok.ensures.written c.in-Ok.ensures.writes c.in-Err-flush.ensures.bytes c.in-Err-flush.ensures.exact)
