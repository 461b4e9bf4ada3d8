use Rattle.std.proofs.Common.{option_copied, Err, []}
use Rattle.mongo_command.specs.Exchange.{frame_maximum}
use Rattle.mongo_sasl.specs.Plain.{plain_handed, plain_body, plain_heard, plain_plan, IsPlainLogin, plain_user_of}
use Rattle.mongo_sasl.specs.Login.{unasked}
use Rattle.mongo_sasl.specs.Keys.{sasl_start_key}
use Rattle.mongo_sasl.proofs.EndsByScript.{refused_by_script, once_by_script, holds_its_reply}
use Rattle.mongo_sasl.proofs.Handed.{no_answer_on}
use Rattle.mongo_sasl.proofs.OneExchange.{exchanged_as, unanswered_as}
use Rattle.mongo_sasl.proofs.PlainJoins.{plain_joins}
use Rattle.mongo_sasl.proofs.PlainSteps.{plain_user_refused, plain_begins, user_stopped, plain_unbuilt, plain_replied, plain_refused}
use Rattle.mongo_sasl.proofs.StopsBy.{was_faultless, no_exchange, at_exchange, after_exchange}
use Rattle.mongo_sasl.proofs.plain.authenticate_stream.Goals as goal

-- ---- where the credential has no login

pub returns-in_err-login-clause-login : goal.returns-in_err-login-clause-login
returns-in_err-login-clause-login g c =
    let handed = plain_handed c.args.credential.now (option_copied c.args.server_api) (frame_maximum c.args.connection.now.stream_description) in
    let e = c.in_err-login.field-0.0 in
    let r = c.from_residual.result in
    let passed = c.from_residual.ensures.1 in
    refused_by_script [] _ (plain_plan handed) (unasked (IsPlainLogin handed)) handed.maximum (plain_joins handed) _ _ r e passed
    (no_exchange _ (plain_plan handed) _ (Err e) (plain_user_refused handed e.kind c.in_err-login.ensures.refused))

pub returns-in_err-login-clause-buffer : goal.returns-in_err-login-clause-buffer
returns-in_err-login-clause-buffer g c = no_answer_on c.from_residual.result c.in_err-login.field-0.0 _ c.from_residual.ensures.1

-- ---- where the command is not built

pub returns-in_err-command-clause-login : goal.returns-in_err-command-clause-login
returns-in_err-command-clause-login g c =
    let handed = plain_handed c.args.credential.now (option_copied c.args.server_api) (frame_maximum c.args.connection.now.stream_description) in
    let user = plain_user_of c.in_ok-login.login in
    let e = c.in_err-command.field-0.0 in
    let r = c.from_residual-in_err-command.result in
    let passed = c.from_residual-in_err-command.ensures.1 in
    refused_by_script [] _ (plain_plan handed) (unasked (IsPlainLogin handed)) handed.maximum (plain_joins handed) _ _ r e passed
    (no_exchange _ (plain_plan handed) _ (Err e) (plain_unbuilt handed user c.in_ok-login.ensures.user e.kind c.in_err-command.ensures.refused))

pub returns-in_err-command-clause-buffer : goal.returns-in_err-command-clause-buffer
returns-in_err-command-clause-buffer g c = no_answer_on c.from_residual-in_err-command.result c.in_err-command.field-0.0 _ c.from_residual-in_err-command.ensures.1

-- ---- where the exchange is refused

pub returns-in_err-exchange_into-clause-login : goal.returns-in_err-exchange_into-clause-login
returns-in_err-exchange_into-clause-login g c =
    let handed = plain_handed c.args.credential.now (option_copied c.args.server_api) (frame_maximum c.args.connection.now.stream_description) in
    let user = plain_user_of c.in_ok-login.login in
    let e = c.in_err-exchange_into.field-0.0 in
    let exchange = c.in_err-exchange_into.ensures in
    let r = c.from_residual-in_err-exchange_into.result in
    let passed = c.from_residual-in_err-exchange_into.ensures.1 in
    refused_by_script [] _ (plain_plan handed) (unasked (IsPlainLogin handed)) handed.maximum (plain_joins handed) _ _ r e passed
    (at_exchange _ (plain_plan handed) _ _ _ e (plain_begins handed user c.in_ok-login.ensures.user) exchange.ends exchange.untouched exchange.buffer
    (λ refused. user_stopped handed user c.in_ok-login.ensures.user e.kind _ _ _ _ (unanswered_as sasl_start_key user.source (plain_body user) handed.server_api handed.maximum c.in_ok-command.command plain_heard e.kind _ _ _ _ _ c.in_ok-command.ensures.command exchange.ends.counts refused)))

pub returns-in_err-exchange_into-clause-buffer : goal.returns-in_err-exchange_into-clause-buffer
returns-in_err-exchange_into-clause-buffer g c = no_answer_on c.from_residual-in_err-exchange_into.result c.in_err-exchange_into.field-0.0 _ c.from_residual-in_err-exchange_into.ensures.1

-- ---- after the reply

pub returns-clause-login : goal.returns-clause-login
returns-clause-login g c =
    let handed = plain_handed c.args.credential.now (option_copied c.args.server_api) (frame_maximum c.args.connection.now.stream_description) in
    let user = plain_user_of c.in_ok-login.login in
    let exchange = c.in_ok-exchange_into.ensures in
    let reply = c.held_reply.result.bytes.now in
    let r = c.finish.result in
    let exchanged = exchanged_as sasl_start_key user.source (plain_body user) handed.server_api handed.maximum c.in_ok-command.command _ _ _ _ _ _ c.in_ok-command.ensures.command c.held_reply.ensures exchange.exchanged in
    once_by_script _ (plain_plan handed) (unasked (IsPlainLogin handed)) handed.maximum (plain_joins handed) _ _ tt _ r
    (plain_replied handed user c.in_ok-login.ensures.user r reply _ _ _ _ _ c.held_reply.ensures exchanged exchange.ends.counts c.finish.ensures.finished) (was_faultless _ _ tt _ _ exchange.ends) exchange.ends.faultless
    (after_exchange _ (plain_plan handed) _ tt _ _ _ _ _ r exchange.ends exchanged exchange.taken
    (plain_refused handed user c.in_ok-login.ensures.user r reply _ _ _ _ exchanged exchange.ends.counts c.finish.ensures.refused))

pub returns-clause-buffer : goal.returns-clause-buffer
returns-clause-buffer g c =
    let handed = plain_handed c.args.credential.now (option_copied c.args.server_api) (frame_maximum c.args.connection.now.stream_description) in
    let user = plain_user_of c.in_ok-login.login in
    let exchange = c.in_ok-exchange_into.ensures in
    let exchanged = exchanged_as sasl_start_key user.source (plain_body user) handed.server_api handed.maximum c.in_ok-command.command _ _ _ _ _ _ c.in_ok-command.ensures.command c.held_reply.ensures exchange.exchanged in
    holds_its_reply _ (plain_plan handed) tt _ _ _ c.finish.result exchange.counted exchange.taken
    (plain_replied handed user c.in_ok-login.ensures.user c.finish.result c.held_reply.result.bytes.now _ _ _ _ _ c.held_reply.ensures exchanged exchange.ends.counts c.finish.ensures.finished)
