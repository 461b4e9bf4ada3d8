use Rattle.std.proofs.Common.{rules, IfOk, FitsSigned, subst, ◌++◌, ◌∙◌}
use Rattle.std.proofs.lemmas.Int.{to_z-of_z}
use Rattle.std.specs.Int.{w32}
use Rattle.mongo_login.specs.Proxy.{count_lines, fault_lines}
use Rattle.mongo_login.proofs.Told.{TellsSent, cut_told, memory_new, tells_cut, tells_whole, two_sides, whole_told}
use Rattle.mongo_login.proofs.proxy.relay_in_memory.Goals as goal

pub returns-in-Ok : goal.returns-in-Ok
returns-in-Ok c =
    let asked = c.args.settings in
    let done = c.in-Ok.done in
    let client = memory_new c.new-client.result asked.commands c.new-client.ensures.input c.new-client.ensures.at c.new-client.ensures.output c.new-client.ensures.flushed c.new-client.ensures.ends in
    let server = memory_new c.new-server.result asked.replies c.new-server.ensures.input c.new-server.ensures.at c.new-server.ensures.output c.new-server.ensures.flushed c.new-server.ensures.ends in
    let fits : FitsSigned w32 asked.first_id = search rules in
    let first = c.new-ids.ensures ∙ to_z-of_z w32 asked.first_id fits in
    let told =
    subst (λ b. IfOk c.whole_report.result (λ made. TellsSent b c.written-in-Ok.result.now (count_lines done) made.report.items)) c.written.ensures c.whole_report.ensures.lines in
    let lines = subst (λ b. IfOk c.whole_report.result (λ made. TellsSent c.relay.new.server.output.items b (count_lines done) made.report.items)) c.written-in-Ok.ensures told in
    whole_told asked _ _ _ c.whole_report.result c.whole_report.ensures.accepted lines
    (λ text sent. tells_whole asked _ _ _ _ c.relay.new.client c.relay.new.server done text (two_sides c.new-client.result c.new-server.result asked client server) first c.most_of-most.ensures c.in-Ok.ensures.relays sent)

pub returns : goal.returns
returns c =
    let asked = c.args.settings in
    let fault = c.in-Err.fault in
    let client = memory_new c.new-client.result asked.commands c.new-client.ensures.input c.new-client.ensures.at c.new-client.ensures.output c.new-client.ensures.flushed c.new-client.ensures.ends in
    let server = memory_new c.new-server.result asked.replies c.new-server.ensures.input c.new-server.ensures.at c.new-server.ensures.output c.new-server.ensures.flushed c.new-server.ensures.ends in
    let fits : FitsSigned w32 asked.first_id = search rules in
    let first = c.new-ids.ensures ∙ to_z-of_z w32 asked.first_id fits in
    let told =
    subst (λ b. IfOk c.cut_report.result (λ made. TellsSent b c.written-in-Err-2.result.now (count_lines fault.done ++ fault_lines fault) made.report.items)) c.written-in-Err.ensures c.cut_report.ensures.lines in
    let lines = subst (λ b. IfOk c.cut_report.result (λ made. TellsSent c.relay.new.server.output.items b (count_lines fault.done ++ fault_lines fault) made.report.items)) c.written-in-Err-2.ensures told in
    cut_told asked _ _ _ fault c.cut_report.result c.cut_report.ensures.refused c.cut_report.ensures.cause lines
    (λ text other sent. tells_cut asked _ _ _ _ c.relay.new.client c.relay.new.server fault text (two_sides c.new-client.result c.new-server.result asked client server) first c.most_of-most.ensures c.in-Err.ensures.relays other sent)
