use Rattle.std.proofs.Common.{refl, Err, []}
use Rattle.mongo_command.specs.Exchange.{frame_maximum}
use Rattle.mongo_scram.specs.Client.{auth_message_of, final_conversation}
use Rattle.mongo_scram.specs.Messages.{verifier}
use Rattle.mongo_scram.specs.Plan.{last_exchange}
use Rattle.mongo_scram.specs.Login.{final_said}
use Rattle.mongo_scram.specs.Version.{digest_of}
use Rattle.mongo_sasl.proofs.Handed.{no_answer_on, on_answer}
use Rattle.mongo_sasl.proofs.StopsBy.{was_faultless, draws_refused, draws_exchanged, draws_none, no_exchange, at_exchange, after_exchange, handed_stops}
use Rattle.mongo_scram.proofs.LastExchange.{final_unbuilt, final_unanswered, final_exchanged, refused_stopped, closes_by}
use Rattle.mongo_scram.proofs.login.close.Goals as goal

-- ---- where the command is not built

pub returns-in_err-command-clause-closed : goal.returns-in_err-command-clause-closed
returns-in_err-command-clause-closed g c = no_answer_on c.from_residual.result c.in_err-command.field-0.0 _ c.from_residual.ensures.1

pub returns-in_err-command-clause-once : goal.returns-in_err-command-clause-once
returns-in_err-command-clause-once g c = no_answer_on c.from_residual.result c.in_err-command.field-0.0 _ c.from_residual.ensures.1

pub returns-in_err-command-clause-stops : goal.returns-in_err-command-clause-stops
returns-in_err-command-clause-stops g c challenge =
    let final = c.args.client_final.now in
    let e = c.in_err-command.field-0.0 in
    handed_stops [] _ _ _ _ c.from_residual.result e c.from_residual.ensures.1
    (no_exchange _ _ _ (Err e) (final_unbuilt final _ _ _ challenge e.kind c.in_err-command.ensures.refused))

pub returns-in_err-command-clause-drawn : goal.returns-in_err-command-clause-drawn
returns-in_err-command-clause-drawn g c = draws_none _

-- ---- where the exchange is refused

pub returns-in_err-exchange_into-clause-closed : goal.returns-in_err-exchange_into-clause-closed
returns-in_err-exchange_into-clause-closed g c = no_answer_on c.from_residual-in_err-exchange_into.result c.in_err-exchange_into.field-0.0 _ c.from_residual-in_err-exchange_into.ensures.1

pub returns-in_err-exchange_into-clause-once : goal.returns-in_err-exchange_into-clause-once
returns-in_err-exchange_into-clause-once g c = no_answer_on c.from_residual-in_err-exchange_into.result c.in_err-exchange_into.field-0.0 _ c.from_residual-in_err-exchange_into.ensures.1

pub returns-in_err-exchange_into-clause-stops : goal.returns-in_err-exchange_into-clause-stops
returns-in_err-exchange_into-clause-stops g c challenge =
    let e = c.in_err-exchange_into.field-0.0 in
    let exchange = c.in_err-exchange_into.ensures in
    handed_stops [] _ _ _ _ c.from_residual-in_err-exchange_into.result e c.from_residual-in_err-exchange_into.ensures.1
    (at_exchange _ _ _ _ _ e (final_said c.args.client_final.now (frame_maximum c.args.connection.now.stream_description), refl) exchange.ends exchange.untouched exchange.buffer (final_unanswered c.args.client_final.now c.in_ok-command.command _ _ _ challenge e.kind _ _ _ _ _ c.in_ok-command.ensures.command exchange.ends.counts))

pub returns-in_err-exchange_into-clause-drawn : goal.returns-in_err-exchange_into-clause-drawn
returns-in_err-exchange_into-clause-drawn g c =
    let exchange = c.in_err-exchange_into.ensures in
    draws_refused _ _ _ _ c.in_err-exchange_into.field-0.0 exchange.ends exchange.untouched exchange.buffer

-- ---- after the reply

pub returns-clause-drawn : goal.returns-clause-drawn
returns-clause-drawn g c = draws_exchanged _ _ _ _ _ _ _ c.in_ok-exchange_into.ensures.exchanged

pub returns-clause-closed : goal.returns-clause-closed
returns-clause-closed g c =
    let exchange = c.in_ok-exchange_into.ensures in
    closes_by _ c.take_last.result _ _ _ _ _ _ c.held_reply.ensures (final_exchanged c.args.client_final.now c.in_ok-command.command _ _ _ _ _ _ _ c.in_ok-command.ensures.command c.held_reply.ensures exchange.exchanged) exchange.ends.counts exchange.taken c.take_last.ensures.taken

pub returns-clause-once : goal.returns-clause-once
returns-clause-once g c =
    let exchange = c.in_ok-exchange_into.ensures in
    on_answer c.take_last.result _ (record { was = was_faultless _ _ tt _ _ exchange.ends; is = exchange.ends.faultless; frames = exchange.counted })

pub returns-clause-stops : goal.returns-clause-stops
returns-clause-stops g c challenge =
    let final = c.args.client_final.now in
    let conversation = final_conversation final in
    let owed = verifier (digest_of c.args.version) c.args.salted.now (auth_message_of final) in
    let said = final_said final (frame_maximum c.args.connection.now.stream_description) in
    let reply = c.held_reply.result.bytes.now in
    let exchange = c.in_ok-exchange_into.ensures in
    after_exchange _ (last_exchange said conversation owed challenge) _ tt _ _ _ _ _ c.take_last.result exchange.ends exchange.exchanged exchange.taken
    (refused_stopped c.take_last.result said conversation owed challenge reply _ _ _ _ (final_exchanged final c.in_ok-command.command _ _ _ _ _ _ _ c.in_ok-command.ensures.command c.held_reply.ensures exchange.exchanged) exchange.ends.counts c.take_last.ensures.refused)
