-- However an establishment ends, no more bytes are left of its link than were left before.
use Rattle.std.proofs.Common.{◌≡◌, ◌+◌, ◌≤◌, ◌∙◌, ℤ, ℕ, ap, subst, sym, inl, inr, Some, Option, Result, Ok, Err, List, [], ◌++◌, length, length-append, IfOk, IfErr, arith}
use Rattle.std.proofs.KnownBytes.{Consumes-nil, Consumes-trans}
use Rattle.std.specs.Io.KnownBytes.{Consumes}
use Rattle.mongo_wire.specs.declared.error.ErrorKind.{ErrorKind}
use Rattle.mongo_wire.specs.declared.error.ErrorKind.TheVariants.{ReadFault, WriteFault, OutOfMemory, EndOfInput, InvalidArgument, InvalidResponse}
use Rattle.mongo_wire.specs.declared.fault.ArgumentFault.TheVariants.{Bson}
use Rattle.mongo_bson.specs.declared.fault.BsonFault.TheVariants.{TooLong}
use Rattle.mongo_wire.specs.declared.message.Message.{Message}
use Rattle.mongo_wire.specs.Message.{ReadRefused}
use Rattle.mongo_wire.specs.Outside.{State}
use Rattle.mongo_command.specs.Helper.{Given}
use Rattle.mongo_command.specs.Conversation.{Plan, ReachedGiven, StoppedGiven}
use Rattle.mongo_command.specs.Exchange.{ExchangeRefused, SendRefused, Unsent, Cut, point}
use Rattle.mongo_scram.specs.Costs.{Ledgers, checkpoint}
use Rattle.mongo_establish.specs.declared.establisher.EstablishError.{EstablishError}
use Rattle.mongo_establish.specs.declared.establisher.HandshakePhase.{HandshakePhase}
use Rattle.mongo_establish.specs.declared.establisher.HandshakePhase.TheVariants.{PreHello, PostHello}
use Rattle.mongo_establish.specs.declared.establisher.PooledConnection.{PooledConnection}
use Rattle.mongo_establish.specs.Setup.{Setup, start_of}
use Rattle.mongo_establish.specs.Established.{Established}
use Rattle.mongo_establish.specs.Stopped.{StoppedIn}

-- a front of the bytes left was taken
abbrev TakesSome : Option (List ℕ) → Option (List ℕ) → Type 0
TakesSome old new = (taken : List ℕ) × Consumes old new taken

none_taken : (old new : Option (List ℕ)) → new ≡ old → TakesSome old new
none_taken old new same = ([], subst (λ left. Consumes old left []) (sym same) (Consumes-nil old))

more_taken : (old middle new : Option (List ℕ)) → TakesSome old middle → TakesSome middle new → TakesSome old new
more_taken old middle new first second = (first.0 ++ second.0, Consumes-trans old middle new first.0 second.0 first.1 second.1)

-- ---- an exchange that was refused

unsent : {old new : State} {before after : ℤ} {kept : Option ErrorKind} → Unsent (point old before) (point new after) kept → TakesSome old.left new.left
unsent {old} {new} is = none_taken old.left new.left (ap (λ s. s.left) is.link)

cut : {kind : ErrorKind} {maximum : ℤ} {message : Message} {old new : State} {before after : ℤ} {kept : Option ErrorKind} → Cut kind maximum message (point old before) (point new after) kept → TakesSome old.left new.left
cut {old = old} {new = new} is = none_taken old.left new.left is.unread

send_refused : (kind : ErrorKind) (maximum : ℤ) (message : Message) (old new : State) (before after : ℤ) (kept : Option ErrorKind) → SendRefused kind maximum message (point old before) (point new after) kept → TakesSome old.left new.left
send_refused (InvalidArgument (Bson TooLong)) maximum message old new before after kept is = unsent is.1
send_refused (InvalidArgument fault) maximum message old new before after kept is = unsent is.2
send_refused WriteFault maximum message old new before after kept is = cut is.1
send_refused OutOfMemory maximum message old new before after kept (inl is) = unsent is
send_refused OutOfMemory maximum message old new before after kept (inr is) = cut is.1
send_refused kind maximum message old new before after kept is = absurd is

read_refused : (kind : ErrorKind) (maximum : ℤ) (old new : State) → ReadRefused kind maximum old new → TakesSome old.left new.left
read_refused ReadFault maximum old new is = (is.1.0, is.1.1)
read_refused OutOfMemory maximum old new is = (is.1.0, is.1.1)
read_refused EndOfInput maximum old new is = (is.1.0, is.1.1)
read_refused (InvalidResponse fault) maximum old new is = (is.1.0, is.1.1)
read_refused (InvalidArgument fault) maximum old new is = (is.1.0, is.1.1)
read_refused kind maximum old new is = absurd is

exchange_refused : (kind : ErrorKind) (maximum : ℤ) (message : Message) (old new : State) (before after : ℤ) (kept : Option ErrorKind) → ExchangeRefused kind maximum message (point old before) (point new after) kept → TakesSome old.left new.left
exchange_refused kind maximum message old new before after kept (inl is) = send_refused kind maximum message old new before after kept is
exchange_refused kind maximum message old new before after kept (inr is) =
    more_taken old.left is.middle.left new.left (none_taken old.left is.middle.left is.sends.unread) (read_refused kind maximum is.middle new is.refused.refused)

-- ---- a plan

reached : {A : Type 0} {given : List Given} (plan : Plan A) (answer : A) (old new : State) (before after : ℤ) → ReachedGiven given plan answer (point old before) (point new after) → TakesSome old.left new.left
reached plan answer old new before after is = (is.talked.heard, is.talked.consumed)

stopped : {A : Type 0} {given : List Given} {kept : Option ErrorKind} (plan : Plan A) (kind : ErrorKind) (old new : State) (before after : ℤ) → StoppedGiven given plan kind (point old before) (point new after) kept → TakesSome old.left new.left
stopped plan kind old new before after is =
    more_taken old.left is.middle.state.left new.left (is.talked.heard, is.talked.consumed)
    (elim is.stop [
      | inl halted ↦ none_taken is.middle.state.left new.left (ap (λ s. s.left) halted.0.link)
      | inr failed ↦ exchange_refused _ _ _ is.middle.state new _ _ _ failed.refused
    ])

-- ---- an establishment

stopped_in : (given : List Given) (phase : HandshakePhase) (setup : Setup) (kind : ErrorKind) (old new : State) (after : ℤ) (first last : Ledgers) → StoppedIn given phase setup kind (start_of setup old first) (checkpoint (point new after) last) → TakesSome old.left new.left
stopped_in given (PreHello generation) setup kind old new after first last is = stopped _ kind old new _ after is.2.1
stopped_in given (PostHello generation) setup kind old new after first last is =
    more_taken old.left is.middle.state.left new.left (reached _ is.greeting old is.middle.state _ is.middle.id is.hello)
    (elim is.stopped [
      | inl refused ↦ stopped _ kind is.middle.state new is.middle.id after refused.login.1
      | inr unnamed ↦ reached _ is.greeting is.middle.state new is.middle.id after unnamed.login
    ])

shorter : (bytes left : List ℕ) → TakesSome (Some bytes) (Some left) → length left ≤ length bytes
shorter bytes left is = let parts : length bytes ≡ length is.0 + length left = ap length is.1 ∙ length-append is.0 left in omega (arith, parts)

-- what is left isn't longer than what was left before
pub left_within : (given : List Given) (setup : Setup) (old new : State) (after : ℤ) (first last : Ledgers) (bytes left : List ℕ) (ended : Result PooledConnection EstablishError) → IfOk ended (Established given setup (start_of setup old first) (checkpoint (point new after) last))
    → IfErr ended (λ e. StoppedIn given e.handshake_phase setup e.cause.kind (start_of setup old first) (checkpoint (point new after) last)) → old.left ≡ Some bytes → new.left ≡ Some left → length left ≤ length bytes
left_within given setup old new after first last bytes left (Ok pooled) made refused was is =
    let replies = made.scripted.taken bytes was in
    shorter bytes left (replies.taken, replies.joined ∙ ap (λ rest. replies.taken ++ rest) (same_some replies.rest left (sym replies.left_is ∙ is))) where
      same_some : (a b : List ℕ) → Some a ≡ Some b → a ≡ b
      same_some a b e = cc
left_within given setup old new after first last bytes left (Err e) made refused was is =
    shorter bytes left (subst (λ left. TakesSome (Some bytes) left) is (subst (λ o. TakesSome o new.left) was (stopped_in given e.handshake_phase setup e.cause.kind old new after first last refused)))
