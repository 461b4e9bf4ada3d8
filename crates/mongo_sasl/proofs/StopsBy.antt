-- A call by a plan that is refused before its exchange, at it, or after it.
use Rattle.std.proofs.Common.{◌≡◌, ◌⊎◌, ℕ, ℤ, refl, inl, inr, Option, None, Some, Result, Ok, Err, List, [], IfErr}
use Rattle.std.proofs.lemmas.Result.{IfErr-weaker}
use Rattle.std.specs.Result.{IsErrAnd}
use Rattle.mongo_wire.specs.declared.error.Error.{Error}
use Rattle.mongo_wire.specs.declared.error.ErrorKind.{ErrorKind}
use Rattle.mongo_wire.specs.declared.message.Message.{Message}
use Rattle.mongo_wire.specs.Buffer.{IsFrameTaken}
use Rattle.mongo_wire.specs.Outside.{State}
use Rattle.mongo_command.specs.declared.command.Command.{Command}
use Rattle.mongo_command.specs.Connection.{kept_fault}
use Rattle.mongo_command.specs.Conversation.{Plan, StoppedKeeping}
use Rattle.mongo_command.specs.EndsExchange.{Footing, footing, EndsExchange}
use Rattle.mongo_command.specs.Exchange.{command_message, frame_maximum, BufferRefused, Exchanges, ExchangeRefused, point}
use Rattle.mongo_command.specs.Helper.{Given}
use Rattle.mongo_command.proofs.EndsExchange.{HasRefusalCause}
use Rattle.mongo_command.proofs.Rest.{keeps_all}
use Rattle.mongo_command.proofs.Talked.{still_counts}
use Rattle.mongo_sasl.specs.EndsByScript.{Standing, DrawsOnce, LeavesInBuffer, StopsBy}
use Rattle.mongo_sasl.specs.Stops.{BeginsWithCommand, RefusedAtOnce, StoppedWith}
use Rattle.mongo_sasl.proofs.AtOnce.{keeping_none, at_once_keeping}
use Rattle.mongo_sasl.proofs.DrawnIds.{once_buffer, refused_draws}
use Rattle.mongo_sasl.proofs.Handed.{handed_on}
use Rattle.mongo_sasl.proofs.LeftInBuffer.{leaves_all, leaves_same, refused_leaves, taken_leaves}
use Rattle.mongo_sasl.proofs.Unsent.{answered_fault, not_replied}

-- what its exchange stands on
abbrev pub footing_of : {L : Type 0} → Standing L → Footing L
footing_of standing = footing standing.connection standing.link standing.id

pub not_both_faults : (fault : Option ErrorKind) (kind : ErrorKind) → fault ≡ None → fault ≡ Some kind → ⊥
not_both_faults fault kind none some = cc

none_kept : (fault : Option ErrorKind) → ((kind : ErrorKind) → fault ≡ Some kind → ⊥) → fault ≡ None
none_kept None never = refl
none_kept (Some kind) never = absurd (never kind refl)

-- what was exchanged wasn't over one
pub was_faultless : {L U : Type 0} (state : L → State) (command : Command) (x : U) (old new : Footing L) → EndsExchange state ExchangeRefused command (Ok x) old new → kept_fault old.connection ≡ None
was_faultless state command x old new ends = none_kept (kept_fault old.connection) (λ kind is. not_replied x kind ⊥ (ends.kept kind is).0)

-- ---- the id and the buffer of one exchange

-- the buffer that it leaves, where it was refused
abbrev pub LeavesBuffer : {L : Type 0} → (L → State) → Command → ErrorKind → Standing L → Standing L → Type 0
LeavesBuffer state command kind old new = BufferRefused kind (frame_maximum old.connection.stream_description) (command_message command) (point (state old.link) old.id) (point (state new.link) new.id) (kept_fault new.connection) old.buffer new.buffer

module _ {L U : Type 0} (state : L → State) (command : Command) (old new : Standing L) (e : Error) (ends : EndsExchange {T = U} state ExchangeRefused command (Err e) (footing_of old) (footing_of new))
    (untouched : (kind : ErrorKind) → kept_fault old.connection ≡ Some kind → new.buffer ≡ old.buffer) (buffer : kept_fault old.connection ≡ None → LeavesBuffer state command e.kind old new) where
  draws_by : (fault : Option ErrorKind) → kept_fault old.connection ≡ fault → DrawsOnce old new
  draws_by None is = refused_draws e.kind (frame_maximum old.connection.stream_description) (command_message command) (state old.link) (state new.link) (kept_fault new.connection) old new (buffer is)
  draws_by (Some kind) is = record { drawn = inl ((ends.kept kind is).2, untouched kind is) }

  -- it was refused, and drew its id or none
  pub draws_refused : DrawsOnce old new
  draws_refused = draws_by (kept_fault old.connection) refl

  leaves_by : (fault : Option ErrorKind) → kept_fault old.connection ≡ fault → LeavesInBuffer state old new
  leaves_by None is = refused_leaves state e.kind (frame_maximum old.connection.stream_description) (command_message command) old new (buffer is)
  leaves_by (Some kind) is = leaves_same state old new (ends.kept kind is).1 (untouched kind is)

  -- it left the buffer as it was, or empty
  leaves_refused : LeavesInBuffer state old new
  leaves_refused = leaves_by (kept_fault old.connection) refl

-- its reply was taken
pub draws_exchanged : {L : Type 0} (maximum : ℤ) (message : Message) (left taken : State) (reply : List ℕ) (old new : Standing L) → Exchanges maximum message (point left old.id) (point taken new.id) reply → DrawsOnce old new
draws_exchanged maximum message left taken reply old new e = record { drawn = inr e.sends.drawn }

-- nothing was done
pub draws_none : {L : Type 0} (old : Standing L) → DrawsOnce old old
draws_none old = record { drawn = inl (refl, refl) }

module _ {L T A : Type 0} (state : L → State) (plan : Plan A) where
  here_keeping : (r : Result T Error) (old : Standing L) → IfErr r (λ e. RefusedAtOnce plan e.kind) → IfErr r (λ e. StoppedKeeping plan e.kind (point (state old.link) old.id) (point (state old.link) old.id) None)
  here_keeping r old = IfErr-weaker r _ _ (λ e. at_once_keeping plan e.kind (state old.link) old.id)

  here_answers : (r : Result T Error) (kind : ErrorKind) → IfErr r (λ e. RefusedAtOnce plan e.kind) → IfErr r (λ e. ((e.kind ≡ kind) × BeginsWithCommand plan) ⊎ RefusedAtOnce plan e.kind)
  here_answers r kind = IfErr-weaker r _ _ (λ e h. inr h)

  -- it made no exchange, and may be refused before one
  pub no_exchange : (old : Standing L) (r : Result T Error) → IfErr r (λ e. RefusedAtOnce plan e.kind) → StopsBy [] state plan r old old
  no_exchange old r at_once = record {
    refused = λ faultless. keeping_none r plan _ _ _ _ (kept_fault old.connection) faultless (here_keeping r old at_once);
    untouched = λ kind is. (refl, refl, refl, is);
    answers = λ kind is. here_answers r kind at_once;
    buffer = λ same. refl;
    leaves = leaves_all state old;
    rest = keeps_all old.connection;
    counts = still_counts (state old.link);
  }

  -- the plan's first command wasn't sent, or no reply was received
  pub at_exchange : {U : Type 0} (command : Command) (old new : Standing L) (e : Error) → BeginsWithCommand plan → EndsExchange {T = U} state ExchangeRefused command (Err e) (footing_of old) (footing_of new)
      → ((kind : ErrorKind) → kept_fault old.connection ≡ Some kind → new.buffer ≡ old.buffer) → (kept_fault old.connection ≡ None → LeavesBuffer state command e.kind old new)
      → (HasRefusalCause state command ExchangeRefused e.kind (footing_of old) (footing_of new) → StoppedKeeping plan e.kind (point (state old.link) old.id) (point (state new.link) new.id) (kept_fault new.connection)) → StopsBy {T = T} [] state plan (Err e) old new
  at_exchange {U = U} command old new e begins ends untouched buffer stops = record {
    refused = λ faultless. stops (ends.refused faultless);
    untouched = λ kind is. let same = ends.kept kind is in (same.1, same.2, untouched kind is, same.3);
    answers = λ kind is. inl (answered_fault e kind (ends.kept kind is).0, begins);
    buffer = once_buffer old new (draws_refused {U = U} state command old new e ends untouched buffer);
    leaves = leaves_refused {U = U} state command old new e ends untouched buffer;
    rest = ends.rest;
    counts = ends.counts;
  }

  -- the reply was received, and may be refused
  pub after_exchange : {U : Type 0} (command : Command) (x : U) (maximum : ℤ) (message : Message) (reply : List ℕ) (old new : Standing L) (r : Result T Error) → EndsExchange state ExchangeRefused command (Ok x) (footing_of old) (footing_of new)
      → Exchanges maximum message (point (state old.link) old.id) (point (state new.link) new.id) reply → IsFrameTaken (frame_maximum old.connection.stream_description) (state old.link) (state new.link) new.buffer → IfErr r (λ e. StoppedKeeping plan e.kind (point (state old.link) old.id) (point (state new.link) new.id) None) → StopsBy [] state plan r old new
  after_exchange command x maximum message reply old new r ends e taken stopped = record {
    refused = λ faultless. keeping_none r plan _ _ _ _ (kept_fault new.connection) ends.faultless stopped;
    untouched = λ kind is. not_replied x kind _ (ends.kept kind is).0;
    answers = λ kind is. not_replied x kind _ (ends.kept kind is).0;
    buffer = once_buffer old new (draws_exchanged maximum message (state old.link) (state new.link) reply old new e);
    leaves = taken_leaves state old new taken;
    rest = ends.rest;
    counts = ends.counts;
  }

module _ {L T A : Type 0} (given : List Given) (state : L → State) (plan : Plan A) where
  -- a connection that keeps none after it kept none before it
  pub faultless_before : (r : Result T Error) (old new : Standing L) → StopsBy given state plan r old new → kept_fault new.connection ≡ None → kept_fault old.connection ≡ None
  faultless_before r old new stops none = none_kept (kept_fault old.connection) (λ kind is. not_both_faults (kept_fault new.connection) kind none (stops.untouched kind is).3)

  -- a refusal that is handed on leaves what it left
  pub handed_stops : (old new : Standing L) (r : Result T Error) (e : Error) → IsErrAnd r (λ x. x ≡ e) → StopsBy {T = T} given state plan (Err e) old new → StopsBy given state plan r old new
  handed_stops old new r e handed stops = handed_on (λ x. StopsBy given state plan x old new) r e handed stops

  -- where the plan was stopped
  pub stopped_by : (r : Result T Error) (old new : Standing L) → StopsBy given state plan r old new → kept_fault old.connection ≡ None → IfErr r (λ e. StoppedWith given plan e.kind (point (state old.link) old.id) (point (state new.link) new.id))
  stopped_by r old new stops faultless = IfErr-weaker r _ _ (λ e s. (kept_fault new.connection, s)) (stops.refused faultless)
