-- What a PLAIN login does is a step of its plan.
use Rattle.std.proofs.Common.{◌≡◌, ◌⊎◌, ℕ, ℤ, refl, subst, inl, inr, arith, Option, None, Result, Ok, Err, List, [], IfErr, OnOk, flat_map}
use Rattle.mongo_bson.specs.Document.{spell}
use Rattle.mongo_bson.proofs.Enclosed.{length-enclosed}
use Rattle.mongo_wire.specs.declared.error.Error.{Error}
use Rattle.mongo_wire.specs.declared.error.ErrorKind.{ErrorKind}
use Rattle.mongo_wire.specs.declared.error.ErrorKind.TheVariants.{OutOfMemory}
use Rattle.mongo_wire.specs.Outside.{State}
use Rattle.mongo_command.specs.Conversation.{Event, Turn, plain_message, saying, StoppedKeeping}
use Rattle.mongo_command.specs.Exchange.{DocumentRefused, CountsStay, Exchanges, point}
use Rattle.mongo_command.proofs.Steps.{stopped_more}
use Rattle.mongo_sasl.specs.declared.mechanism.AuthMechanism.TheVariants.{Plain}
use Rattle.mongo_sasl.specs.Commands.{start_elements}
use Rattle.mongo_sasl.specs.Stops.{BeginsWithCommand, RefusedAtOnce}
use Rattle.mongo_sasl.specs.Login.{EndsByReply}
use Rattle.mongo_sasl.specs.Plain.{plain_payload, PlainUser, IsPlainUser, PlainRow, plain_body, plain_command, PlainHanded, plain_said, FinishedRow, plain_heard, plain_plan, IsFinished}
use Rattle.mongo_sasl.specs.Reply.{SaslRow}
use Rattle.mongo_sasl.proofs.LastReply.{ends_by_reply}
use Rattle.mongo_sasl.proofs.OneReply.{sasl_reply_no_row}
use Rattle.mongo_sasl.proofs.PlainPlan.{no_plain_row, finished_no_row}
use Rattle.mongo_sasl.proofs.NotBuilt.{not_built}
use Rattle.mongo_sasl.proofs.AtOnce.{at_once_more, refused_later}

module _ (handed : PlainHanded) (user : PlainUser) (is_user : IsPlainUser handed.credential user) where
  -- what is said
  pub plain_begins : BeginsWithCommand (plain_plan handed)
  plain_begins = (plain_said handed user, inr (no_plain_row handed.credential user is_user, (user, is_user, refl)))

  -- what follows the credential's tests
  after_tests : (past : List Event) (turn : Turn (Unit {0})) → saying (plain_said handed user) plain_heard past turn → plain_plan handed past turn
  after_tests past turn h = inr (no_plain_row handed.credential user is_user, (user, is_user, h))

  -- a stop after them
  pub user_stopped : {kept : Option ErrorKind} (kind : ErrorKind) (old new : State) (before after : ℤ) → StoppedKeeping (saying (plain_said handed user) plain_heard) kind (point old before) (point new after) kept → StoppedKeeping (plain_plan handed) kind (point old before) (point new after) kept
  user_stopped kind old new before after s = stopped_more (saying (plain_said handed user) plain_heard) (plain_plan handed) kind old new before after after_tests s

  -- the command wasn't built
  pub plain_unbuilt : (kind : ErrorKind) → DocumentRefused kind (plain_body user) → RefusedAtOnce (plain_plan handed) kind
  plain_unbuilt kind unbuilt =
      at_once_more (saying (plain_said handed user) plain_heard) (plain_plan handed) kind (after_tests [])
      (not_built (plain_said handed user) plain_heard (plain_command user handed.server_api) kind refl
      (omega (arith, length-enclosed (flat_map spell (start_elements Plain (plain_payload user.username user.password))))) unbuilt)

  -- the reply ends the login
  pub plain_replied : {T : Type 0} (r : Result T Error) (reply held : List ℕ) (old new : State) (before after : ℤ) → reply ≡ held → Exchanges handed.maximum (plain_message (plain_said handed user).document) (point old before) (point new after) reply → CountsStay old new → OnOk r (IsFinished reply) → OnOk r (EndsByReply (plain_plan handed) tt held (point old before) (point new after))
  plain_replied (Ok x) reply held old new before after same e counts is =
      let none = no_plain_row handed.credential user is_user in
      subst (λ document. EndsByReply (plain_plan handed) tt document (point old before) (point new after)) same
      (ends_by_reply (plain_plan handed) tt (plain_said handed user) reply old new before after
      (inr (none, (user, is_user, refl)))
      (inr (none, (user, is_user, inr (sasl_reply_no_row reply is.sasl is.is_reply, (is.sasl, is.is_reply, inr (finished_no_row is.sasl is.done, refl)))))) e counts)
  plain_replied (Err x) reply held old new before after same e counts is = tt

  heard_refused : (reply : List ℕ) (kind : ErrorKind) → FinishedRow reply kind ⊎ (kind ≡ OutOfMemory) → RefusedAtOnce (plain_heard reply) kind
  heard_refused reply kind (inl (inl row)) = inl (inl row)
  heard_refused reply kind (inl (inr is)) = inl (inr (sasl_reply_no_row reply is.0 is.1, (is.0, is.1, inl is.2)))
  heard_refused reply kind (inr memory) = inr (inl memory)

  -- it doesn't
  pub plain_refused : {T : Type 0} (r : Result T Error) (reply : List ℕ) (old new : State) (before after : ℤ) → Exchanges handed.maximum (plain_message (plain_said handed user).document) (point old before) (point new after) reply → CountsStay old new → IfErr r (λ e. FinishedRow reply e.kind ⊎ (e.kind ≡ OutOfMemory)) → IfErr r (λ e. StoppedKeeping (plain_plan handed) e.kind (point old before) (point new after) None)
  plain_refused (Ok x) reply old new before after e counts h = tt
  plain_refused (Err x) reply old new before after e counts h =
      user_stopped x.kind old new before after (refused_later (plain_said handed user) plain_heard reply x.kind old new before after e counts (heard_refused reply x.kind h))

-- the credential has no login
pub plain_user_refused : (handed : PlainHanded) (kind : ErrorKind) → PlainRow handed.credential kind → RefusedAtOnce (plain_plan handed) kind
plain_user_refused handed kind row = inl (inl row)

-- ---- the reply's row

-- it is read, and doesn't end the conversation
pub finished_refused : (reply : List ℕ) (kind : ErrorKind) → SaslRow reply kind ⊎ (kind ≡ OutOfMemory) → FinishedRow reply kind ⊎ (kind ≡ OutOfMemory)
finished_refused reply kind (inl row) = inl (inl row)
finished_refused reply kind (inr memory) = inr memory
