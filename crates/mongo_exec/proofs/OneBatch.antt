-- How the insert of one batch ends, by how its exchange and the reading of its reply end.
use Rattle.std.proofs.Common.{◌≡◌, ℕ, None, Some, Ok, Err, List, length, inl, inr, refl, subst}
use Rattle.mongo_wire.specs.Outside.{State}
use Rattle.mongo_wire.specs.declared.error.Error.{Error}
use Rattle.mongo_command.specs.Connection.{kept_fault}
use Rattle.mongo_command.specs.Exchange.{Exchanges, ExchangeRefused, command_message, frame_maximum}
use Rattle.mongo_command.specs.EndsExchange.{EndsExchange, Footing}
use Rattle.mongo_command.specs.Response.{reply_document}
use Rattle.mongo_command.specs.declared.command.Command.{Command}
use Rattle.mongo_command.specs.declared.raw_command_response.RawCommandResponse.{RawCommandResponse}
use Rattle.mongo_command.specs.declared.stream_description.StreamDescription.{StreamDescription}
use Rattle.mongo_exec.specs.Insert.{Insert, insert_command, insert_message}
use Rattle.mongo_exec.specs.Reply.{Said, IsInsertReply, ReplyRefused}
use Rattle.mongo_exec.specs.Told.{Tells, TellsOf, with_told, IsBehind}
use Rattle.mongo_exec.specs.InsertMany.{at}
use Rattle.mongo_exec.specs.Course.{EndsBatch}
use Rattle.mongo_exec.specs.declared.insert_reply.BatchReply.{BatchReply}
use Rattle.mongo_exec.specs.declared.tally.Tally.{Tally}

module _ {L : Type 0} (state : L → State) (description : StreamDescription) (insert : Insert) (batch : List (List ℕ)) (place : ℕ) (before after : Tally) (old new : Footing L) (described : old.connection.stream_description ≡ Some description) (command : Command) (is : command ≡ insert_command insert batch) where
  -- the exchange of the command is that of the batch, by what the description says
  exchanged_as : (reply : List ℕ) → Exchanges (frame_maximum old.connection.stream_description) (command_message command) (at state old) (at state new) reply → Exchanges description.max_message_size_bytes (insert_message insert batch) (at state old) (at state new) reply
  exchanged_as reply e =
      subst (λ c. Exchanges description.max_message_size_bytes (command_message c) (at state old) (at state new) reply) is
      (subst (λ d. Exchanges (frame_maximum d) (command_message command) (at state old) (at state new) reply) described e)

  pub batch_added : (told : BatchReply) (response : RawCommandResponse)
      → Exchanges (frame_maximum old.connection.stream_description) (command_message command) (at state old) (at state new) (reply_document response)
      → EndsExchange state ExchangeRefused command (Ok response) old new
      → ((said : Said) × IsInsertReply (length batch) (reply_document response) said × Tells told said)
      → TellsOf (length batch) told → after.outcome ≡ with_told place told before.outcome → IsBehind after
      → EndsBatch state description insert batch place (Ok told) before after old new
  batch_added told response exchange ends reads within added behind = record {
    added = (
      record { batch = batch; reply = reply_document response; said = reads.0 },
      record { batch_is = refl; is_answered = reads.1; tells = reads.2; added = added; behind = behind; within = within },
      exchanged_as (reply_document response) exchange,
    );
    refused = tt;
    faultless = ends.faultless;
    rest = ends.rest;
    counts = ends.counts;
  }

  pub batch_unread : (error : Error) (response : RawCommandResponse)
      → Exchanges (frame_maximum old.connection.stream_description) (command_message command) (at state old) (at state new) (reply_document response)
      → EndsExchange state ExchangeRefused command (Ok response) old new
      → ReplyRefused error.kind (length batch) (reply_document response) → after.outcome ≡ before.outcome
      → EndsBatch state description insert batch place (Err error) before after old new
  batch_unread error response exchange ends refused same = record {
    added = tt;
    refused = (inr (record { reply = reply_document response; exchanged = exchanged_as (reply_document response) exchange; refused = refused; kept_is = ends.faultless }), same);
    faultless = tt;
    rest = ends.rest;
    counts = ends.counts;
  }

  -- the exchange was refused
  pub batch_unsent : (error : Error) → kept_fault old.connection ≡ None → EndsExchange {T = RawCommandResponse} state ExchangeRefused command (Err error) old new → after.outcome ≡ before.outcome
      → EndsBatch state description insert batch place (Err error) before after old new
  batch_unsent error unkept ends same =
      let cause = ends.refused unkept in record {
        added = tt;
        refused = (
          inl (subst (λ c. ExchangeRefused error.kind description.max_message_size_bytes (command_message c) (at state old) (at state new) (kept_fault new.connection)) is
              (subst (λ d. ExchangeRefused error.kind (frame_maximum d) (command_message command) (at state old) (at state new) (kept_fault new.connection)) described cause)),
          same,
        );
        faultless = tt;
        rest = ends.rest;
        counts = ends.counts;
      }
