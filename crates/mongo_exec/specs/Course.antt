-- How the insert of one batch ends, and how far a whole insert has come.
use Rattle.std.specs.Prelude.{◌≡◌, ℕ, ◌+◌, ◌≤◌, None, Result, List, length, sum_by, All, IfOk, IfErr, OnOk}
use Rattle.mongo_wire.specs.declared.error.Error.{Error}
use Rattle.mongo_wire.specs.Outside.{State}
use Rattle.mongo_command.specs.Connection.{kept_fault, KeepsRest}
use Rattle.mongo_command.specs.Exchange.{Exchanges, CountsStay}
use Rattle.mongo_command.specs.EndsExchange.{Footing}
use Rattle.mongo_command.specs.declared.stream_description.StreamDescription.{StreamDescription}
use Rattle.mongo_exec.specs.Insert.{Insert, insert_message}
use Rattle.mongo_exec.specs.Outcome.{Answered, outcome_of, Stops}
use Rattle.mongo_exec.specs.Batches.{Sent, BatchRefused, IsAnswered}
use Rattle.mongo_exec.specs.InsertMany.{at, IsAccepted, Inserts, Interrupted}
use Rattle.mongo_exec.specs.Told.{IsBehind, with_told, Tells, TellsOf}
use Rattle.mongo_exec.specs.declared.insert_outcome.InsertOutcome.{InsertOutcome}
use Rattle.mongo_exec.specs.declared.exec_error.InsertFault.{InsertFault}
use Rattle.mongo_exec.specs.declared.insert_reply.BatchReply.{BatchReply}
use Rattle.mongo_exec.specs.declared.tally.Tally.{Tally}

-- The batch was sent and answered, and what its reply tells stands in the tally.
pub record Adds (description : StreamDescription) (insert : Insert) (batch : List (List ℕ)) (place : ℕ) (told : BatchReply) (before after : Tally) (answered : Answered) : Type 0 where
  pub batch_is : answered.batch ≡ batch
  pub is_answered : IsAnswered answered
  pub tells : Tells told answered.said
  pub added : after.outcome ≡ with_told place told before.outcome
  pub behind : IsBehind after
  pub within : TellsOf (length batch) told

-- How the insert of a batch ends that begins at the place.
pub record EndsBatch {L : Type 0} (state : L → State) (description : StreamDescription) (insert : Insert) (batch : List (List ℕ)) (place : ℕ) (result : Result BatchReply Error) (before after : Tally) (old new : Footing L) : Type 0 where
  pub added : IfOk result (λ told. (answered : Answered) × Adds description insert batch place told before after answered × Exchanges description.max_message_size_bytes (insert_message insert batch) (at state old) (at state new) answered.reply)
  pub refused : IfErr result (λ e. BatchRefused description insert batch e.kind (at state old) (at state new) (kept_fault new.connection) × (after.outcome ≡ before.outcome))
  pub faultless : OnOk result (kept_fault new.connection ≡ None)
  pub rest : KeepsRest old.connection new.connection
  pub counts : CountsStay (state old.link) (state new.link)

-- how many documents the batches have
abbrev pub many_in : List Answered → ℕ
many_in answered = sum_by (λ a. length a.batch) answered

-- Batches were inserted so far, none of which stops the insert, and this is left.
pub record Come {L : Type 0} (state : L → State) (description : StreamDescription) (insert : Insert) (documents : List (List ℕ)) (answered : List Answered) (rest : List (List ℕ)) (place : ℕ) (tally : Tally) (old now : Footing L) : Type 0 where
  pub sent : Sent description insert documents answered rest (at state old) (at state now)
  pub on : All (λ a. Stops insert.ordered a → ⊥) answered
  pub outcome : tally.outcome ≡ outcome_of answered
  pub behind : IsBehind tally
  pub accepted : All (IsAccepted description insert) rest
  pub place_is : place ≡ many_in answered
  pub left : place + length rest ≡ length documents
  pub inserted : tally.outcome.inserted ≤ place
  pub batches : tally.outcome.batches ≤ place
  pub unkept : kept_fault now.connection ≡ None
  pub keeps : KeepsRest old.connection now.connection
  pub counts : CountsStay (state old.link) (state now.link)

-- How the inserts of all batches end, over a connection that kept no fault.
pub record EndsBatches {L : Type 0} (state : L → State) (description : StreamDescription) (insert : Insert) (documents : List (List ℕ)) (result : Result InsertOutcome InsertFault) (old new : Footing L) : Type 0 where
  pub inserted : IfOk result (λ outcome. Inserts description insert documents outcome (at state old) (at state new))
  pub refused : IfErr result (λ fault. Interrupted description insert documents fault (at state old) (at state new) (kept_fault new.connection))
  pub faultless : OnOk result (kept_fault new.connection ≡ None)
  pub rest : KeepsRest old.connection new.connection
  pub counts : CountsStay (state old.link) (state new.link)
