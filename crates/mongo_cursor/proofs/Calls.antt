-- How a call ends that sends a command, by how its exchange and the reading of its reply end.
use Rattle.std.proofs.Common.{◌≡◌, ℕ, Option, None, Some, Result, Ok, Err, List, inl, inr, refl, subst, IfOk, IfErr}
use Rattle.mongo_wire.specs.Outside.{State}
use Rattle.mongo_wire.specs.declared.error.Error.{Error}
use Rattle.mongo_wire.specs.declared.error.ErrorKind.{ErrorKind}
use Rattle.mongo_command.specs.Connection.{kept_fault}
use Rattle.mongo_command.specs.Exchange.{Exchanges, ExchangeRefused, command_message}
use Rattle.mongo_command.specs.EndsExchange.{EndsExchange, Footing}
use Rattle.mongo_command.specs.Response.{reply_document}
use Rattle.mongo_command.specs.declared.command.Command.{Command}
use Rattle.mongo_command.specs.declared.raw_command_response.RawCommandResponse.{RawCommandResponse}
use Rattle.mongo_exec.specs.InsertMany.{at}
use Rattle.mongo_cursor.specs.Call.{EndsCall, maximum_at}

-- where no fault is kept that ..
none_kept : (kept : Option ErrorKind) → ((kind : ErrorKind) → kept ≡ Some kind → ⊥) → kept ≡ None
none_kept None not = refl
none_kept (Some kind) not = absurd (not kind refl)

unkept : {L : Type 0} (state : L → State) (command : Command) (old new : Footing L) (response : RawCommandResponse) → EndsExchange state ExchangeRefused command (Ok response) old new → kept_fault old.connection ≡ None
unkept state command old new response ends = none_kept (kept_fault old.connection) (λ kind is. (let same = (ends.kept kind is).0 in cc))

module _ {L T : Type 0} (state : L → State) (command : Command) (Reads : List ℕ → T → Type 0) (Refused : ErrorKind → List ℕ → Type 0) (old new : Footing L) where
  pub call_answered : (result : Result T Error) (response : RawCommandResponse)
      → Exchanges (maximum_at old) (command_message command) (at state old) (at state new) (reply_document response)
      → EndsExchange state ExchangeRefused command (Ok response) old new
      → IfOk result (Reads (reply_document response)) → IfErr result (λ e. Refused e.kind (reply_document response))
      → EndsCall state command Reads Refused result old new
  call_answered (Ok value) response exchange ends reads refused = record {
    read = (reply_document response, exchange, reads);
    refused = tt;
    faultless = (unkept state command old new response ends, ends.faultless);
    rest = ends.rest;
    counts = ends.counts;
  }
  call_answered (Err e) response exchange ends reads refused = record {
    read = tt;
    refused = inr (unkept state command old new response ends, inr (record { reply = reply_document response; exchanged = exchange; refused = refused; kept_is = ends.faultless }));
    faultless = tt;
    rest = ends.rest;
    counts = ends.counts;
  }

  -- the call of a command is that of the same command
  pub call_of : (made : Command) (result : Result T Error) → made ≡ command → EndsCall state made Reads Refused result old new → EndsCall state command Reads Refused result old new
  call_of made result is ends = subst (λ c. EndsCall state c Reads Refused result old new) is ends
