use Rattle.std.proofs.Common.{option_copied, refl, ap, ◌∙◌, inl, inr}
use Rattle.mongo_command.specs.Exchange.{frame_maximum}
use Rattle.mongo_command.proofs.Rest.{keeps_all}
use Rattle.mongo_command.proofs.Talked.{counts_on, still_counts}
use Rattle.mongo_scram.specs.Base64.{base64_of}
use Rattle.mongo_scram.specs.Client.{handed_to, user_of}
use Rattle.mongo_scram.specs.Costs.{ledgers, checkpoint}
use Rattle.mongo_scram.specs.Plan.{closing}
use Rattle.mongo_sasl.proofs.Handed.{no_answer_on, on_answer, rest_on}
use Rattle.mongo_sasl.proofs.DrawnIds.{twice_buffer}
use Rattle.mongo_sasl.proofs.LeftInBuffer.{leaves_all, leaves_both}
use Rattle.mongo_sasl.proofs.AtOnce.{at_once_keeping}
use Rattle.mongo_sasl.proofs.StopsBy.{faultless_before}
use Rattle.mongo_scram.proofs.ScramPlan.{challenge_by_first}
use Rattle.mongo_scram.proofs.Derived.{costs_nothing}
use Rattle.mongo_scram.proofs.EndsByScram.{refused_scram, stopped_scram, accepted_scram}
use Rattle.mongo_scram.proofs.OpeningSteps.{opening_refused, user_stopped, user_refused, start_unsaid, answer_stopped, answer_refused}
use Rattle.mongo_scram.proofs.ClosingSteps.{final_by, closing_exchange_ends, closing_taken, closing_stopped, closing_refused, ends_login}
use Rattle.mongo_scram.proofs.LoginSteps.{between_by, between_tag, stopped_early, stopped_between, stopped_last, accepted_by, frames_both, unchanged_on, close_unsaid, close_refused}
use Rattle.mongo_scram.proofs.scram_version.ScramVersion.authenticate_stream.Goals as goal

-- ---- where the credential has no login

pub returns-in_err-user-clause-login : goal.returns-in_err-user-clause-login
returns-in_err-user-clause-login g c =
    let handed = handed_to c.args.self.now c.args.credential.now (option_copied c.args.server_api) c.args.first_round (base64_of c.args.nonce.now) c.args.max_iterations (frame_maximum c.args.connection.now.stream_description) in
    let e = c.in_err-user.field-0.0 in
    stopped_scram _ handed _ _ _ _ c.from_residual.result e c.from_residual.ensures.1
    (stopped_early handed e.kind _ _ (at_once_keeping _ e.kind _ _ (opening_refused handed e.kind c.in_err-user.ensures.refused)) (costs_nothing c.args.steps.now c.args.salted.now))
    (λ kind is. inl (opening_refused handed e.kind c.in_err-user.ensures.refused, costs_nothing c.args.steps.now c.args.salted.now)) (λ none. none) refl
    (λ kind is. (refl, refl, refl, is)) (λ same. refl) (leaves_all _ _) (keeps_all c.args.connection.now) (still_counts _)

pub returns-in_err-user-clause-buffer : goal.returns-in_err-user-clause-buffer
returns-in_err-user-clause-buffer g c = no_answer_on c.from_residual.result c.in_err-user.field-0.0 _ c.from_residual.ensures.1

-- ---- where the first exchange is refused

pub returns-in_err-opened-clause-login : goal.returns-in_err-opened-clause-login
returns-in_err-opened-clause-login g c =
    let handed = handed_to c.args.self.now c.args.credential.now (option_copied c.args.server_api) c.args.first_round (base64_of c.args.nonce.now) c.args.max_iterations (frame_maximum c.args.connection.now.stream_description) in
    let user = user_of c.in_ok-user.user in
    let e = c.in_err-opened.field-0.0 in
    let stops = c.in_err-opened.ensures.stops in
    let nothing = costs_nothing c.args.steps.now c.args.salted.now in
    refused_scram _ handed _ _ _ _ c.from_residual-in_err-opened.result e c.from_residual-in_err-opened.ensures.1
    (λ none. stopped_early handed e.kind _ _ (user_stopped handed user e.kind _ _ _ _ c.in_ok-user.ensures.user (stops.refused none)) nothing)
    (λ kind is. elim (stops.answers kind is) [
      | inl same ↦ inl (same.0, start_unsaid handed user _ _ c.in_ok-user.ensures.user same.1 nothing)
      | inr at_once ↦ inr (inl (user_refused handed user e.kind c.in_ok-user.ensures.user at_once, nothing))
    ]) refl stops.untouched stops.buffer stops.leaves stops.rest stops.counts

pub returns-in_err-opened-clause-buffer : goal.returns-in_err-opened-clause-buffer
returns-in_err-opened-clause-buffer g c = no_answer_on c.from_residual-in_err-opened.result c.in_err-opened.field-0.0 _ c.from_residual-in_err-opened.ensures.1

-- ---- where no password is derived

pub returns-in_err-derived-clause-login : goal.returns-in_err-derived-clause-login
returns-in_err-derived-clause-login g c =
    let handed = handed_to c.args.self.now c.args.credential.now (option_copied c.args.server_api) c.args.first_round (base64_of c.args.nonce.now) c.args.max_iterations (frame_maximum c.args.connection.now.stream_description) in
    let user = user_of c.in_ok-user.user in
    let o = c.in_ok-opened.opened in
    let opening = c.in_ok-opened.ensures in
    let e = c.in_err-derived.field-0.0 in
    let refused = c.in_err-derived.ensures in
    stopped_scram _ handed _ _ _ _ c.from_residual-in_err-derived.result e c.from_residual-in_err-derived.ensures.1
    (stopped_early handed e.kind _ _ (answer_stopped handed user o c.nonce.result.now e.kind _ _ _ _ c.in_ok-user.ensures.user opening.opened c.nonce.ensures refused.refused) refused.no_cost)
    (λ kind is. inl (answer_refused handed user o c.nonce.result.now e.kind _ _ _ _ c.in_ok-user.ensures.user opening.opened c.nonce.ensures refused.refused (opening.alone kind is), refused.no_cost))
    opening.faultless refused.no_cost.entries opening.stops.untouched opening.stops.buffer opening.stops.leaves opening.stops.rest opening.stops.counts

pub returns-in_err-derived-clause-buffer : goal.returns-in_err-derived-clause-buffer
returns-in_err-derived-clause-buffer g c = no_answer_on c.from_residual-in_err-derived.result c.in_err-derived.field-0.0 _ c.from_residual-in_err-derived.ensures.1

-- ---- where the last message is not made

pub returns-in_err-client_final-clause-login : goal.returns-in_err-client_final-clause-login
returns-in_err-client_final-clause-login g c =
    let handed = handed_to c.args.self.now c.args.credential.now (option_copied c.args.server_api) c.args.first_round (base64_of c.args.nonce.now) c.args.max_iterations (frame_maximum c.args.connection.now.stream_description) in
    let user = user_of c.in_ok-user.user in
    let o = c.in_ok-opened.opened in
    let opening = c.in_ok-opened.ensures in
    let derived = c.in_ok-derived.derived in
    let between = between_by handed user o derived.key derived.salted c.nonce.result.now (checkpoint _ (ledgers c.args.steps.now c.args.salted.now)) (checkpoint _ (ledgers c.answer.new.steps c.answer.new.cache)) c.in_ok-user.ensures.user opening.opened c.nonce.ensures c.in_ok-derived.ensures.key c.in_ok-derived.ensures.answered in
    let e = c.in_err-client_final.field-0.0 in
    stopped_scram _ handed _ _ _ _ c.from_residual-in_err-client_final.result e c.from_residual-in_err-client_final.ensures.1
    (stopped_between handed user o derived.key derived.salted _ _ between e.kind _ _ (at_once_keeping (closing handed (challenge_by_first user o.server_first)) e.kind _ _ (inr (inl c.in_err-client_final.ensures.refused))))
    (λ kind is. close_refused handed user o derived.key derived.salted _ _ between e.kind (opening.alone kind is) (inr (inl c.in_err-client_final.ensures.refused)))
    opening.faultless c.in_ok-derived.ensures.answered.entries opening.stops.untouched opening.stops.buffer opening.stops.leaves opening.stops.rest opening.stops.counts

pub returns-in_err-client_final-clause-buffer : goal.returns-in_err-client_final-clause-buffer
returns-in_err-client_final-clause-buffer g c = no_answer_on c.from_residual-in_err-client_final.result c.in_err-client_final.field-0.0 _ c.from_residual-in_err-client_final.ensures.1

-- ---- where the last exchange is refused

pub returns-in_err-close-clause-login : goal.returns-in_err-close-clause-login
returns-in_err-close-clause-login g c =
    let handed = handed_to c.args.self.now c.args.credential.now (option_copied c.args.server_api) c.args.first_round (base64_of c.args.nonce.now) c.args.max_iterations (frame_maximum c.args.connection.now.stream_description) in
    let user = user_of c.in_ok-user.user in
    let o = c.in_ok-opened.opened in
    let opening = c.in_ok-opened.ensures in
    let derived = c.in_ok-derived.derived in
    let between = between_by handed user o derived.key derived.salted c.nonce.result.now (checkpoint _ (ledgers c.args.steps.now c.args.salted.now)) (checkpoint _ (ledgers c.answer.new.steps c.answer.new.cache)) c.in_ok-user.ensures.user opening.opened c.nonce.ensures c.in_ok-derived.ensures.key c.in_ok-derived.ensures.answered in
    let challenge = challenge_by_first user o.server_first in
    let made = c.in_ok-client_final.ensures in
    let final = c.in_ok-client_final.client_final in
    let is = final_by handed challenge derived.salted o.client_first final (between_tag handed user o derived.key derived.salted _ _ between) opening.opened.message made.auth_message made.message made.conversation made.source (made.api ∙ c.copied.ensures) in
    let same = ap frame_maximum opening.stops.rest.description in
    let e = c.in_err-close.field-0.0 in
    let stops = c.in_err-close.ensures.stops challenge in
    refused_scram _ handed _ _ _ _ c.from_residual-in_err-close.result e c.from_residual-in_err-close.ensures.1
    (λ none. stopped_between handed user o derived.key derived.salted _ _ between e.kind _ _ (closing_stopped handed challenge derived.salted final _ e.kind _ _ _ _ same is (stops.refused (opening.faultless none))))
    (λ kind kept.
    let still = opening.stops.untouched kind kept in
    elim (stops.answers kind still.3) [
      | inl fault ↦ inl (fault.0, inr (close_unsaid handed user o derived.key derived.salted _ _ between (opening.alone kind kept)))
      | inr at_once ↦ inr (close_refused handed user o derived.key derived.salted _ _ between e.kind (opening.alone kind kept) (closing_refused handed challenge derived.salted final _ e.kind same is at_once))
    ])
    c.in_ok-derived.ensures.answered.entries
    (λ kind kept.
    let still = opening.stops.untouched kind kept in
    let closed = stops.untouched kind still.3 in
    (closed.0 ∙ still.0, closed.1 ∙ still.1, closed.2 ∙ still.2, closed.3))
    (twice_buffer _ _ _ opening.drawn c.in_err-close.ensures.drawn) (leaves_both opening.stops stops)
    (rest_on _ _ _ opening.stops.rest stops.rest) (counts_on _ _ _ opening.stops.counts stops.counts)

pub returns-in_err-close-clause-buffer : goal.returns-in_err-close-clause-buffer
returns-in_err-close-clause-buffer g c = no_answer_on c.from_residual-in_err-close.result c.in_err-close.field-0.0 _ c.from_residual-in_err-close.ensures.1

-- ---- after the last exchange

pub returns-clause-login : goal.returns-clause-login
returns-clause-login g c =
    let handed = handed_to c.args.self.now c.args.credential.now (option_copied c.args.server_api) c.args.first_round (base64_of c.args.nonce.now) c.args.max_iterations (frame_maximum c.args.connection.now.stream_description) in
    let user = user_of c.in_ok-user.user in
    let o = c.in_ok-opened.opened in
    let opening = c.in_ok-opened.ensures in
    let derived = c.in_ok-derived.derived in
    let between = between_by handed user o derived.key derived.salted c.nonce.result.now (checkpoint _ (ledgers c.args.steps.now c.args.salted.now)) (checkpoint _ (ledgers c.answer.new.steps c.answer.new.cache)) c.in_ok-user.ensures.user opening.opened c.nonce.ensures c.in_ok-derived.ensures.key c.in_ok-derived.ensures.answered in
    let challenge = challenge_by_first user o.server_first in
    let made = c.in_ok-client_final.ensures in
    let final = c.in_ok-client_final.client_final in
    let is = final_by handed challenge derived.salted o.client_first final (between_tag handed user o derived.key derived.salted _ _ between) opening.opened.message made.auth_message made.message made.conversation made.source (made.api ∙ c.copied.ensures) in
    let same = ap frame_maximum opening.stops.rest.description in
    let closed = c.in_ok-close.ensures in
    let stops = closed.stops challenge in
    let ended = closing_exchange_ends handed challenge derived.salted final _ _ _ _ _ _ same is (closed.closed.ends challenge) in
    let r = c.keep.result in
    accepted_scram _ handed _ _ _ _ r
    (accepted_by handed user o derived.key derived.salted _ _ between r c.close.new.buffer _ _ c.keep.new.cache (closing_taken handed _ _ _ _ same closed.closed.taken) ended c.keep.ensures.rounds (ends_login handed challenge derived.salted final _ is closed.closed.message) c.keep.ensures.kept)
    (stopped_last handed user o derived.key derived.salted _ _ between r _ _ _ c.keep.new.cache ended c.keep.ensures.rounds c.keep.ensures.unchanged c.keep.ensures.refused)
    (unchanged_on r _ _ _ c.in_ok-derived.ensures.answered.entries c.keep.ensures.unchanged) (faultless_before _ _ _ _ _ _ opening.stops closed.once.was) closed.once.is
    (twice_buffer _ _ _ opening.drawn closed.drawn) (leaves_both opening.stops stops)
    (rest_on _ _ _ opening.stops.rest stops.rest) (counts_on _ _ _ opening.stops.counts stops.counts)

pub returns-clause-buffer : goal.returns-clause-buffer
returns-clause-buffer g c = on_answer c.keep.result _ (frames_both c.args.first_round _ _ _ c.in_ok-opened.ensures.frames c.in_ok-close.ensures.once.frames)
