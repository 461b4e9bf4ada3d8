-- How a call that sends a command and takes its reply ends at each of its steps.
use Rattle.std.proofs.Common.{◌≡◌, ◌↔◌, ◌∙◌, refl, sym, ap, subst, inl, None, Some, IsOk, IfErr, Result, Ok, Err}
use Rattle.std.proofs.lemmas.Bool.{false≢true}
use Rattle.std.specs.Result.{IsErrAnd}
use Rattle.mongo_bson.specs.declared.fault.BsonFault.{BsonFault}
use Rattle.mongo_bson.specs.declared.fault.BsonFault.TheVariants.{OutOfMemory as BsonMemory}
use Rattle.mongo_wire.specs.declared.error.Error.{Error}
use Rattle.mongo_wire.specs.declared.error.ErrorKind.{ErrorKind}
use Rattle.mongo_wire.specs.declared.error.ErrorKind.TheVariants.{OutOfMemory}
use Rattle.mongo_wire.specs.Error.{kind_of_fault}
use Rattle.mongo_wire.specs.Outside.{State}
use Rattle.mongo_command.specs.Connection.{kept_fault, KeepsRest}
use Rattle.mongo_command.specs.EndsExchange.{Footing, Refusals, EndsExchange}
use Rattle.mongo_command.specs.Exchange.{command_message, frame_maximum, CountsStay, ExchangeRefused, point}
use Rattle.mongo_command.specs.declared.command.Command.{Command}
use Rattle.mongo_command.proofs.Rest.{keeps_all, none_some}
use Rattle.mongo_command.proofs.Talked.{still_counts}

-- the fault that is answered is the one that is kept
same_error : {U : Type 0} (a e : Error) → ◌≡◌ {A = Result U Error} (Err a) (Err e) → a ≡ e
same_error a e is = cc

no_answer : {U : Type 0} (x : U) (e : Error) → ◌≡◌ {A = Result U Error} (Ok x) (Err e) → ⊥
no_answer x e is = cc

module _ {L : Type 0} (state : L → State) (command : Command) where
  -- a refusal has its cause, and says what it left
  abbrev pub HasRefusalCause : Refusals → ErrorKind → Footing L → Footing L → Type 0
  HasRefusalCause Refused kind old new = Refused kind (frame_maximum old.connection.stream_description) (command_message command) (point (state old.link) old.id) (point (state new.link) new.id) (kept_fault new.connection)

  -- a fault that is kept was answered
  pub ends_kept : {T U : Type 0} (Refused : Refusals) (at : Footing L) (r : Result T Error) (e : Error) → IsErrAnd r (λ x. x ≡ e) → ((kind : ErrorKind) → kept_fault at.connection ≡ Some kind → ◌≡◌ {A = Result U Error} (Err e) (Err (record { kind = kind })))
      → (IsOk {T = U} {E = Error} (Err e) ↔ (kept_fault at.connection ≡ None)) → EndsExchange state Refused command r at at
  ends_kept Refused at (Ok x) e handed answers none = absurd handed
  ends_kept Refused at (Err x) e handed answers none = record {
    kept = λ kind is. (ap (λ (y : Error). Err y) (handed ∙ same_error e (record { kind = kind }) (answers kind is)), refl, refl, is);
    refused = λ faultless. absurd (false≢true (none.1 faultless));
    faultless = tt;
    rest = keeps_all at.connection;
    counts = still_counts (state at.link);
  }

  -- a connection without a fault, and a refusal
  pub ends_refused : {T : Type 0} (Refused : Refusals) (old new : Footing L) (r : Result T Error) (e : Error) → IsErrAnd r (λ x. x ≡ e) → kept_fault old.connection ≡ None → HasRefusalCause Refused e.kind old new
      → KeepsRest old.connection new.connection → CountsStay (state old.link) (state new.link) → EndsExchange state Refused command r old new
  ends_refused Refused old new (Ok x) e handed was cause rest counts = absurd handed
  ends_refused Refused old new (Err x) e handed was cause rest counts = record {
    kept = λ kind is. absurd (none_some (sym was ∙ is));
    refused = λ faultless. subst (λ (y : Error). HasRefusalCause Refused y.kind old new) (sym handed) cause;
    faultless = tt;
    rest = rest;
    counts = counts;
  }

  -- memory ran out before the exchange
  pub ends_wanting : {T : Type 0} (at : Footing L) (r : Result T Error) (fault : BsonFault) → IsErrAnd r (λ x. x.kind ≡ kind_of_fault fault) → fault ≡ BsonMemory → kept_fault at.connection ≡ None → EndsExchange state ExchangeRefused command r at at
  ends_wanting at (Ok x) fault given memory was = absurd given
  ends_wanting at (Err x) fault given memory was =
      let cause : HasRefusalCause ExchangeRefused OutOfMemory at at = inl (inl (record { link = refl; ids = refl; kept_is = was })) in
      ends_refused ExchangeRefused at at (Err x) x refl was (subst (λ kind. HasRefusalCause ExchangeRefused kind at at) (sym (given ∙ ap kind_of_fault memory)) cause) (keeps_all at.connection) (still_counts (state at.link))

  -- and an answer
  pub ends_answered : {T : Type 0} (Refused : Refusals) (old new : Footing L) (x : T) → kept_fault old.connection ≡ None → kept_fault new.connection ≡ None
      → KeepsRest old.connection new.connection → CountsStay (state old.link) (state new.link) → EndsExchange state Refused command (Ok x) old new
  ends_answered Refused old new x was is rest counts = record {
    kept = λ kind some. absurd (none_some (sym was ∙ some));
    refused = λ faultless. tt;
    faultless = is;
    rest = rest;
    counts = counts;
  }

  -- a refusal of the exchange was handed on
  pub ends_handed : {T U : Type 0} (First Refused : Refusals) (old new : Footing L) (r : Result T Error) (e : Error) → IsErrAnd r (λ x. x ≡ e) → (HasRefusalCause First e.kind old new → HasRefusalCause Refused e.kind old new)
      → EndsExchange {T = U} state First command (Err e) old new → EndsExchange state Refused command r old new
  ends_handed First Refused old new (Ok x) e handed so ends = absurd handed
  ends_handed First Refused old new (Err x) e handed so ends = record {
    kept = λ kind is. let kept = ends.kept kind is in (ap (λ (y : Error). Err y) (handed ∙ same_error e (record { kind = kind }) kept.0), kept.1, kept.2, kept.3);
    refused = λ faultless. subst (λ (y : Error). HasRefusalCause Refused y.kind old new) (sym handed) (so (ends.refused faultless));
    faultless = tt;
    rest = ends.rest;
    counts = ends.counts;
  }

  -- the reply was taken, and answered or refused
  pub ends_replied : {T U : Type 0} (First Refused : Refusals) (old new : Footing L) (x : U) (r : Result T Error) → IfErr r (λ e. HasRefusalCause Refused e.kind old new)
      → EndsExchange {T = U} state First command (Ok x) old new → EndsExchange state Refused command r old new
  ends_replied First Refused old new x (Ok y) cause ends = record {
    kept = λ kind is. absurd (no_answer x (record { kind = kind }) (ends.kept kind is).0);
    refused = λ faultless. tt;
    faultless = ends.faultless;
    rest = ends.rest;
    counts = ends.counts;
  }
  ends_replied First Refused old new x (Err e) cause ends = record {
    kept = λ kind is. absurd (no_answer x (record { kind = kind }) (ends.kept kind is).0);
    refused = λ faultless. cause;
    faultless = tt;
    rest = ends.rest;
    counts = ends.counts;
  }
