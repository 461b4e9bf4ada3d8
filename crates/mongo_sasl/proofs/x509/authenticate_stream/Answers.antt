use Rattle.std.proofs.Common.{option_copied, refl, Ok, Err, []}
use Rattle.mongo_command.specs.Exchange.{frame_maximum}
use Rattle.mongo_sasl.specs.X509.{x509_handed, x509_body, x509_heard, x509_plan, IsX509Login}
use Rattle.mongo_sasl.specs.Login.{unasked}
use Rattle.mongo_sasl.specs.Keys.{authenticate_key}
use Rattle.mongo_sasl.specs.Mechanism.{external}
use Rattle.mongo_sasl.proofs.EndsByScript.{ends_by_script, refused_by_script, once_by_script, holds_its_reply}
use Rattle.mongo_sasl.proofs.Handed.{no_answer_on}
use Rattle.mongo_sasl.proofs.OneExchange.{exchanged_as, unanswered_as}
use Rattle.mongo_sasl.proofs.StopsBy.{was_faultless, no_exchange, at_exchange, after_exchange}
use Rattle.mongo_sasl.proofs.X509Joins.{x509_joins}
use Rattle.mongo_sasl.proofs.X509Steps.{x509_at_once, ends_at_once, not_both_ways, x509_begins, x509_stopped, x509_unbuilt, x509_replied, x509_refused}
use Rattle.mongo_sasl.proofs.x509.authenticate_stream.Goals as goal

-- ---- after an answer in the hello

pub returns-then-speculated-clause-login : goal.returns-then-speculated-clause-login
returns-then-speculated-clause-login g c =
    let handed = x509_handed c.args.credential.now (option_copied c.args.server_api) c.args.speculated (frame_maximum c.args.connection.now.stream_description) in
    let answered = c.if-speculated.true in
    ends_by_script [] _ (x509_plan handed) (unasked (IsX509Login handed)) handed.maximum (x509_joins handed) _ _ _ (tt, x509_at_once handed _ _ answered) (λ faultless. faultless) (λ kind is. (tt, ends_at_once handed answered)) (no_exchange _ (x509_plan handed) _ (Ok tt) tt)

pub returns-then-speculated-clause-buffer : goal.returns-then-speculated-clause-buffer
returns-then-speculated-clause-buffer g c later = not_both_ways c.args.speculated _ c.if-speculated.true later

pub returns-then-speculated-clause-at_once : goal.returns-then-speculated-clause-at_once
returns-then-speculated-clause-at_once g c at_once = (refl, refl, refl, refl, refl)

-- ---- where the command is not built

pub returns-in_err-command-clause-login : goal.returns-in_err-command-clause-login
returns-in_err-command-clause-login g c =
    let handed = x509_handed c.args.credential.now (option_copied c.args.server_api) c.args.speculated (frame_maximum c.args.connection.now.stream_description) in
    let e = c.in_err-command.field-0.0 in
    let r = c.from_residual.result in
    let passed = c.from_residual.ensures.1 in
    refused_by_script [] _ (x509_plan handed) (unasked (IsX509Login handed)) handed.maximum (x509_joins handed) _ _ r e passed
    (no_exchange _ (x509_plan handed) _ (Err e) (x509_unbuilt handed c.if-speculated.false e.kind c.in_err-command.ensures.refused))

pub returns-in_err-command-clause-buffer : goal.returns-in_err-command-clause-buffer
returns-in_err-command-clause-buffer g c later = no_answer_on c.from_residual.result c.in_err-command.field-0.0 _ c.from_residual.ensures.1

pub returns-in_err-command-clause-at_once : goal.returns-in_err-command-clause-at_once
returns-in_err-command-clause-at_once g c at_once = not_both_ways c.args.speculated _ at_once c.if-speculated.false

-- ---- where the exchange is refused

pub returns-in_err-exchange_into-clause-login : goal.returns-in_err-exchange_into-clause-login
returns-in_err-exchange_into-clause-login g c =
    let handed = x509_handed c.args.credential.now (option_copied c.args.server_api) c.args.speculated (frame_maximum c.args.connection.now.stream_description) in
    let e = c.in_err-exchange_into.field-0.0 in
    let exchange = c.in_err-exchange_into.ensures in
    let r = c.from_residual-in_err-exchange_into.result in
    let passed = c.from_residual-in_err-exchange_into.ensures.1 in
    refused_by_script [] _ (x509_plan handed) (unasked (IsX509Login handed)) handed.maximum (x509_joins handed) _ _ r e passed
    (at_exchange _ (x509_plan handed) _ _ _ e (x509_begins handed c.if-speculated.false) exchange.ends exchange.untouched exchange.buffer
    (λ refused. x509_stopped handed c.if-speculated.false e.kind _ _ _ _ (unanswered_as authenticate_key external (x509_body handed.credential.username) handed.server_api handed.maximum c.in_ok-command.command x509_heard e.kind _ _ _ _ _ c.in_ok-command.ensures.command exchange.ends.counts refused)))

pub returns-in_err-exchange_into-clause-buffer : goal.returns-in_err-exchange_into-clause-buffer
returns-in_err-exchange_into-clause-buffer g c later = no_answer_on c.from_residual-in_err-exchange_into.result c.in_err-exchange_into.field-0.0 _ c.from_residual-in_err-exchange_into.ensures.1

pub returns-in_err-exchange_into-clause-at_once : goal.returns-in_err-exchange_into-clause-at_once
returns-in_err-exchange_into-clause-at_once g c at_once = not_both_ways c.args.speculated _ at_once c.if-speculated.false

-- ---- after the reply

pub returns-clause-login : goal.returns-clause-login
returns-clause-login g c =
    let handed = x509_handed c.args.credential.now (option_copied c.args.server_api) c.args.speculated (frame_maximum c.args.connection.now.stream_description) in
    let later = c.if-speculated.false in
    let exchange = c.in_ok-exchange_into.ensures in
    let reply = c.held_reply.result.bytes.now in
    let r = c.take.result in
    let exchanged = exchanged_as authenticate_key external (x509_body handed.credential.username) handed.server_api handed.maximum c.in_ok-command.command _ _ _ _ _ _ c.in_ok-command.ensures.command c.held_reply.ensures exchange.exchanged in
    once_by_script _ (x509_plan handed) (unasked (IsX509Login handed)) handed.maximum (x509_joins handed) _ _ tt _ r
    (x509_replied handed later r reply _ _ _ _ _ c.held_reply.ensures exchanged exchange.ends.counts c.take.ensures.taken) (was_faultless _ _ tt _ _ exchange.ends) exchange.ends.faultless
    (after_exchange _ (x509_plan handed) _ tt _ _ _ _ _ r exchange.ends exchanged exchange.taken
    (x509_refused handed later r reply _ _ _ _ exchanged exchange.ends.counts c.take.ensures.refused))

pub returns-clause-buffer : goal.returns-clause-buffer
returns-clause-buffer g c later =
    let handed = x509_handed c.args.credential.now (option_copied c.args.server_api) c.args.speculated (frame_maximum c.args.connection.now.stream_description) in
    let exchange = c.in_ok-exchange_into.ensures in
    let exchanged = exchanged_as authenticate_key external (x509_body handed.credential.username) handed.server_api handed.maximum c.in_ok-command.command _ _ _ _ _ _ c.in_ok-command.ensures.command c.held_reply.ensures exchange.exchanged in
    holds_its_reply _ (x509_plan handed) tt _ _ _ c.take.result exchange.counted exchange.taken
    (x509_replied handed later c.take.result c.held_reply.result.bytes.now _ _ _ _ _ c.held_reply.ensures exchanged exchange.ends.counts c.take.ensures.taken)

pub returns-clause-at_once : goal.returns-clause-at_once
returns-clause-at_once g c at_once = not_both_ways c.args.speculated _ at_once c.if-speculated.false
