use Rattle.std.proofs.Common.{None, Ok, Err, refl, ◌∙◌, inl, inr, []}
use Rattle.mongo_command.specs.Exchange.{frame_maximum}
use Rattle.mongo_scram.specs.Client.{user_of}
use Rattle.mongo_scram.specs.Plan.{start_said}
use Rattle.mongo_scram.specs.Login.{handed_by}
use Rattle.mongo_scram.proofs.FirstRounds.{IsPlannedFirst, start_unbuilt, start_unanswered, start_exchanged, start_refused, start_opens}
use Rattle.mongo_sasl.proofs.Handed.{no_answer_on, no_answer_by}
use Rattle.mongo_sasl.proofs.StopsBy.{was_faultless, draws_refused, draws_exchanged, draws_none, no_exchange, at_exchange, after_exchange, handed_stops}
use Rattle.mongo_scram.proofs.login.ScramLogin.say_first.Goals as goal

-- ---- where the message is not made

pub returns-in_err-client_first-clause-opened : goal.returns-in_err-client_first-clause-opened
returns-in_err-client_first-clause-opened g c = no_answer_by c.from_residual.result c.in_err-client_first.field-0.0 _ c.from_residual.ensures.1

pub returns-in_err-client_first-clause-once : goal.returns-in_err-client_first-clause-once
returns-in_err-client_first-clause-once g c = no_answer_on c.from_residual.result c.in_err-client_first.field-0.0 _ c.from_residual.ensures.1

pub returns-in_err-client_first-clause-stops : goal.returns-in_err-client_first-clause-stops
returns-in_err-client_first-clause-stops g c =
    let e = c.in_err-client_first.field-0.0 in
    handed_stops [] _ _ _ _ c.from_residual.result e c.from_residual.ensures.1 (no_exchange _ _ _ (Err e) (inr (inl c.in_err-client_first.ensures.refused)))

pub returns-in_err-client_first-clause-drawn : goal.returns-in_err-client_first-clause-drawn
returns-in_err-client_first-clause-drawn g c = draws_none _

-- ---- where the command is not built

pub returns-in_err-command-clause-opened : goal.returns-in_err-command-clause-opened
returns-in_err-command-clause-opened g c = no_answer_by c.from_residual-in_err-command.result c.in_err-command.field-0.0 _ c.from_residual-in_err-command.ensures.1

pub returns-in_err-command-clause-once : goal.returns-in_err-command-clause-once
returns-in_err-command-clause-once g c = no_answer_on c.from_residual-in_err-command.result c.in_err-command.field-0.0 _ c.from_residual-in_err-command.ensures.1

pub returns-in_err-command-clause-stops : goal.returns-in_err-command-clause-stops
returns-in_err-command-clause-stops g c =
    let made = c.in_ok-client_first.ensures in
    let handed = handed_by c.args.self None (frame_maximum c.args.connection.now.stream_description) in
    let user = user_of c.args.user.now in
    let first = c.in_ok-client_first.client_first in
    let start : IsPlannedFirst handed user first = record { db = made.db; source = made.source; message = made.message; api = made.api ∙ c.copied.ensures } in
    let e = c.in_err-command.field-0.0 in
    handed_stops [] _ _ _ _ c.from_residual-in_err-command.result e c.from_residual-in_err-command.ensures.1
    (no_exchange _ _ _ (Err e) (start_unbuilt handed user first e.kind start c.in_err-command.ensures.refused))

pub returns-in_err-command-clause-drawn : goal.returns-in_err-command-clause-drawn
returns-in_err-command-clause-drawn g c = draws_none _

-- ---- where the exchange is refused

pub returns-in_err-exchange_into-clause-opened : goal.returns-in_err-exchange_into-clause-opened
returns-in_err-exchange_into-clause-opened g c = no_answer_by c.from_residual-in_err-exchange_into.result c.in_err-exchange_into.field-0.0 _ c.from_residual-in_err-exchange_into.ensures.1

pub returns-in_err-exchange_into-clause-once : goal.returns-in_err-exchange_into-clause-once
returns-in_err-exchange_into-clause-once g c = no_answer_on c.from_residual-in_err-exchange_into.result c.in_err-exchange_into.field-0.0 _ c.from_residual-in_err-exchange_into.ensures.1

pub returns-in_err-exchange_into-clause-stops : goal.returns-in_err-exchange_into-clause-stops
returns-in_err-exchange_into-clause-stops g c =
    let made = c.in_ok-client_first.ensures in
    let handed = handed_by c.args.self None (frame_maximum c.args.connection.now.stream_description) in
    let user = user_of c.args.user.now in
    let first = c.in_ok-client_first.client_first in
    let start : IsPlannedFirst handed user first = record { db = made.db; source = made.source; message = made.message; api = made.api ∙ c.copied.ensures } in
    let e = c.in_err-exchange_into.field-0.0 in
    let exchange = c.in_err-exchange_into.ensures in
    handed_stops [] _ _ _ _ c.from_residual-in_err-exchange_into.result e c.from_residual-in_err-exchange_into.ensures.1
    (at_exchange _ _ _ _ _ e (start_said handed user, refl) exchange.ends exchange.untouched exchange.buffer (start_unanswered handed user first c.in_ok-command.command e.kind _ _ _ _ _ start c.in_ok-command.ensures.command exchange.ends.counts))

pub returns-in_err-exchange_into-clause-drawn : goal.returns-in_err-exchange_into-clause-drawn
returns-in_err-exchange_into-clause-drawn g c =
    let exchange = c.in_err-exchange_into.ensures in
    draws_refused _ _ _ _ c.in_err-exchange_into.field-0.0 exchange.ends exchange.untouched exchange.buffer

-- ---- where the reply is refused

pub returns-in_err-server_first-clause-opened : goal.returns-in_err-server_first-clause-opened
returns-in_err-server_first-clause-opened g c = no_answer_by c.from_residual-in_err-server_first.result c.in_err-server_first.field-0.0 _ c.from_residual-in_err-server_first.ensures.1

pub returns-in_err-server_first-clause-once : goal.returns-in_err-server_first-clause-once
returns-in_err-server_first-clause-once g c = no_answer_on c.from_residual-in_err-server_first.result c.in_err-server_first.field-0.0 _ c.from_residual-in_err-server_first.ensures.1

pub returns-in_err-server_first-clause-stops : goal.returns-in_err-server_first-clause-stops
returns-in_err-server_first-clause-stops g c =
    let made = c.in_ok-client_first.ensures in
    let handed = handed_by c.args.self None (frame_maximum c.args.connection.now.stream_description) in
    let user = user_of c.args.user.now in
    let first = c.in_ok-client_first.client_first in
    let start : IsPlannedFirst handed user first = record { db = made.db; source = made.source; message = made.message; api = made.api ∙ c.copied.ensures } in
    let e = c.in_err-server_first.field-0.0 in
    let exchange = c.in_ok-exchange_into.ensures in
    handed_stops [] _ _ _ _ c.from_residual-in_err-server_first.result e c.from_residual-in_err-server_first.ensures.1
    (after_exchange _ _ _ tt _ _ _ _ _ (Err e) exchange.ends exchange.exchanged exchange.taken
    (start_refused handed user _ _ e.kind _ _ _ _ c.held_reply.ensures (start_exchanged handed user first c.in_ok-command.command _ _ _ _ _ start c.in_ok-command.ensures.command exchange.exchanged) exchange.ends.counts c.in_err-server_first.ensures.refused))

pub returns-in_err-server_first-clause-drawn : goal.returns-in_err-server_first-clause-drawn
returns-in_err-server_first-clause-drawn g c = draws_exchanged _ _ _ _ _ _ _ c.in_ok-exchange_into.ensures.exchanged

-- ---- after the reply

pub returns-clause-drawn : goal.returns-clause-drawn
returns-clause-drawn g c = draws_exchanged _ _ _ _ _ _ _ c.in_ok-exchange_into.ensures.exchanged

pub returns-clause-opened : goal.returns-clause-opened
returns-clause-opened g c =
    let made = c.in_ok-client_first.ensures in
    let handed = handed_by c.args.self None (frame_maximum c.args.connection.now.stream_description) in
    let user = user_of c.args.user.now in
    let first = c.in_ok-client_first.client_first in
    let start : IsPlannedFirst handed user first = record { db = made.db; source = made.source; message = made.message; api = made.api ∙ c.copied.ensures } in
    let exchange = c.in_ok-exchange_into.ensures in
    start_opens handed user _ _ _ _ _ _ _ refl start made.nonce c.held_reply.ensures (start_exchanged handed user first c.in_ok-command.command _ _ _ _ _ start c.in_ok-command.ensures.command exchange.exchanged) exchange.ends.counts c.in_ok-server_first.ensures.read

pub returns-clause-once : goal.returns-clause-once
returns-clause-once g c = let exchange = c.in_ok-exchange_into.ensures in record { was = was_faultless _ _ tt _ _ exchange.ends; is = exchange.ends.faultless; frames = exchange.counted }

pub returns-clause-stops : goal.returns-clause-stops
returns-clause-stops g c =
    let exchange = c.in_ok-exchange_into.ensures in
    after_exchange _ _ _ tt _ _ _ _ _ (Ok _) exchange.ends exchange.exchanged exchange.taken tt
