-- What a closing that was followed to its end says of its events, and the other way round.
use Rattle.std.proofs.Common.{◌≡◌, ℕ, true, refl, ap, sym, ◌∙◌, subst, inr, List, [], ◌∷◌}
use Rattle.mongo_command.specs.Conversation.{Event, exchanged, ends, HasNone, ending, IsSendable}
use Rattle.mongo_command.proofs.Ends.{PlanEnds, ends_ending, ends_unless, ends_reading, ends_saying}
use Rattle.mongo_scram.specs.declared.server_final.ServerFinal.{ServerFinal}
use Rattle.mongo_scram.specs.Replies.{CarriesFinal}
use Rattle.mongo_scram.specs.Validity.{IsValidFinal, ServerFinalRow}
use Rattle.mongo_scram.specs.Plan.{Handed, Challenge, verifier_by, close_said, NotCompletedRow, LastRow, closed, closing}
use Rattle.mongo_scram.proofs.OneMessage.{one_carried_final, no_final_row}
use Rattle.mongo_command.proofs.Plans.{none_first, none_second, none_else}
use Rattle.mongo_scram.proofs.NoRows.{valid_final, valid_final_row, completed, not_completed}

-- the reply carries the verifier that the server owes, and the conversation is done
pub record IsProved (handed : Handed) (c : Challenge) (reply : List ℕ) : Type 0 where
  pub last : ServerFinal
  pub carries : CarriesFinal reply last
  pub valid : IsValidFinal last c.first.conversation_id (verifier_by handed c)
  pub done : last.done ≡ true

-- what a closing that ended tells
pub record IsClosed (handed : Handed) (c : Challenge) (events : List Event) : Type 0 where
  pub reply : List ℕ
  pub events_are : events ≡ exchanged (close_said handed c) reply ∷ []
  pub is_proved : IsProved handed c reply

proved_by : (handed : Handed) (c : Challenge) (reply : List ℕ) (last : ServerFinal) → CarriesFinal reply last → HasNone (LastRow handed c last) → IsProved handed c reply
proved_by handed c reply last carries none =
    let owed = verifier_by handed c in
    record {
      last = last;
      carries = carries;
      valid = valid_final last c.first.conversation_id owed (none_first (ServerFinalRow last c.first.conversation_id owed) (NotCompletedRow last) none);
      done = completed last.done (none_second (ServerFinalRow last c.first.conversation_id owed) (NotCompletedRow last) none);
    }

pub proved_row : (handed : Handed) (c : Challenge) (last : ServerFinal) → IsValidFinal last c.first.conversation_id (verifier_by handed c) → last.done ≡ true → HasNone (LastRow handed c last)
proved_row handed c last valid done =
    let owed = verifier_by handed c in
    none_else (ServerFinalRow last c.first.conversation_id owed) (NotCompletedRow last) (valid_final_row last c.first.conversation_id owed valid) (not_completed last.done done)

pub closing_ended : (handed : Handed) (c : Challenge) (events : List Event) (result : Challenge) → PlanEnds (closing handed c) events result → (result ≡ c) × IsClosed handed c events
closing_ended handed c events result e =
    let said = ends_saying (close_said handed c) (closed handed c) events result e in
    let read = ends_reading (CarriesFinal said.reply) _ said.more result (one_carried_final said.reply) (ends_unless _ _ said.more result said.rest).1 in
    let passed = ends_unless (LastRow handed c read.0) (ending c) said.more result read.2 in
    let end = ends_ending c said.more result passed.1 in
    let proved = proved_by handed c said.reply read.0 read.1 passed.0 in
    (end.1, record { reply = said.reply; events_are = said.events_are ∙ ap (λ more. exchanged (close_said handed c) said.reply ∷ more) end.0; is_proved = proved })

pub closing_ends : (handed : Handed) (c : Challenge) (events : List Event) → IsSendable (close_said handed c) → IsClosed handed c events → PlanEnds (closing handed c) events c
closing_ends handed c events sendable is =
    let p = is.is_proved in
    let turn : closed handed c is.reply [] (ends c) = inr (no_final_row is.reply p.last p.carries, (p.last, p.carries, inr (proved_row handed c p.last p.valid p.done, refl))) in
    let made : PlanEnds (closing handed c) (exchanged (close_said handed c) is.reply ∷ []) c = record { follows = (refl, sendable, tt); answer_is = turn } in
    subst (λ x. PlanEnds (closing handed c) x c) (sym is.events_are) made
