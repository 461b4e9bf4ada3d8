-- The first exchange of a login is a step of its plan, and so is a round that went with the hello.
use Rattle.std.proofs.Common.{◌≡◌, ◌⊎◌, ℕ, ℤ, false, refl, ap, sym, ◌∙◌, subst, inl, inr, arith, Option, None, Some, IsSome, is_some, Result, Ok, Err, List, [], ◌++◌, IfErr, OnOk, flat_map}
use Rattle.mongo_bson.specs.Document.{spell}
use Rattle.mongo_bson.proofs.Enclosed.{length-enclosed}
use Rattle.mongo_wire.specs.declared.error.Error.{Error}
use Rattle.mongo_wire.specs.declared.error.ErrorKind.{ErrorKind}
use Rattle.mongo_wire.specs.declared.error.ErrorKind.TheVariants.{OutOfMemory}
use Rattle.mongo_wire.specs.declared.frame_buffer.FrameBuffer.{FrameBuffer}
use Rattle.mongo_wire.specs.Buffer.{frames_taken}
use Rattle.mongo_wire.specs.Outside.{State}
use Rattle.mongo_command.specs.declared.connection.Connection.{Connection}
use Rattle.mongo_command.specs.Connection.{kept_fault}
use Rattle.mongo_command.specs.declared.command.Command.{Command}
use Rattle.mongo_command.specs.Exchange.{command_message, DocumentRefused, CountsStay, Exchanges, ExchangeRefused, point}
use Rattle.mongo_command.specs.Conversation.{Plan, plain_message, saying, StoppedKeeping}
use Rattle.mongo_command.proofs.Steps.{stopped_saying}
use Rattle.mongo_sasl.specs.Commands.{start_elements}
use Rattle.mongo_sasl.specs.EndsByScript.{Standing, StopsBy}
use Rattle.mongo_sasl.specs.Stops.{RefusedAtOnce}
use Rattle.mongo_sasl.proofs.Handed.{on_answer}
use Rattle.mongo_sasl.proofs.StopsBy.{not_both_faults, no_exchange}
use Rattle.mongo_scram.specs.declared.messages.ClientFirst.{ClientFirst}
use Rattle.mongo_scram.specs.declared.first_round.FirstRound.{FirstRound}
use Rattle.mongo_scram.specs.declared.login.ScramLogin.{ScramLogin}
use Rattle.mongo_scram.specs.declared.login.Opened.{Opened}
use Rattle.mongo_scram.specs.Client.{message_of, nonce_of, first_source, includes_db, server_api_of, speculated_of}
use Rattle.mongo_scram.specs.Commands.{mechanism_of, first_body, first_command}
use Rattle.mongo_scram.specs.User.{User}
use Rattle.mongo_scram.specs.Plan.{Handed, Challenge, message_by, nonce_by, start_said, challenged, opened}
use Rattle.mongo_scram.specs.Replies.{CarriesFirst, FirstReplyRow}
use Rattle.mongo_scram.specs.Login.{handed_by, LeavesOneExchange, Replies, Opens, frames_opened}
use Rattle.mongo_sasl.proofs.NotBuilt.{not_built}
use Rattle.mongo_sasl.proofs.AtOnce.{refused_later}

-- the command of the first message, as the plan has it
abbrev planned_first_command : Handed → User → Command
planned_first_command handed user = first_command handed.version false user.source (message_by handed user) handed.server_api

-- a first message as the plan has it
pub record IsPlannedFirst (handed : Handed) (user : User) (first : ClientFirst) : Type 0 where
  pub db : includes_db first ≡ false
  pub source : first_source first ≡ user.source
  pub message : message_of first ≡ message_by handed user
  pub api : server_api_of first ≡ handed.server_api

same_command : (handed : Handed) (user : User) (first : ClientFirst) → IsPlannedFirst handed user first → first_command handed.version (includes_db first) (first_source first) (message_of first) (server_api_of first) ≡ planned_first_command handed user
same_command handed user first is =
    let db = is.db in
    let source = is.source in
    let message = is.message in
    let api = is.api in
    λ i. first_command handed.version (db i) (source i) (message i) (api i)

same_body : (handed : Handed) (user : User) (first : ClientFirst) → IsPlannedFirst handed user first → first_body handed.version (includes_db first) (first_source first) (message_of first) ≡ first_body handed.version false user.source (message_by handed user)
same_body handed user first is =
    let db = is.db in
    let source = is.source in
    let message = is.message in
    λ i. first_body handed.version (db i) (source i) (message i)

-- ---- its command

pub start_unbuilt : (handed : Handed) (user : User) (first : ClientFirst) (kind : ErrorKind) → IsPlannedFirst handed user first → DocumentRefused kind (first_body handed.version (includes_db first) (first_source first) (message_of first)) → RefusedAtOnce (saying (start_said handed user) (challenged handed user)) kind
start_unbuilt handed user first kind is unbuilt =
    not_built (start_said handed user) (challenged handed user) (planned_first_command handed user) kind refl
    (omega (arith, length-enclosed (flat_map spell (start_elements (mechanism_of handed.version) (message_by handed user) ++ []))))
    (subst (DocumentRefused kind) (same_body handed user first is) unbuilt)

pub start_unanswered : (handed : Handed) (user : User) (first : ClientFirst) (command : Command) (kind : ErrorKind) (old new : State) (before after : ℤ) (kept : Option ErrorKind) → IsPlannedFirst handed user first → command ≡ first_command handed.version (includes_db first) (first_source first) (message_of first) (server_api_of first) → CountsStay old new
    → ExchangeRefused kind handed.maximum (command_message command) (point old before) (point new after) kept → StoppedKeeping (saying (start_said handed user) (challenged handed user)) kind (point old before) (point new after) kept
start_unanswered handed user first command kind old new before after kept start is counts refused =
    stopped_saying (start_said handed user) (challenged handed user) kind old new before after kept (subst (λ x. ExchangeRefused kind handed.maximum (command_message x) (point old before) (point new after) kept) (is ∙ same_command handed user first start) refused) counts

-- the exchange was that of the command
pub start_exchanged : (handed : Handed) (user : User) (first : ClientFirst) (command : Command) (old new : State) (before after : ℤ) (reply : List ℕ) → IsPlannedFirst handed user first → command ≡ first_command handed.version (includes_db first) (first_source first) (message_of first) (server_api_of first)
    → Exchanges handed.maximum (command_message command) (point old before) (point new after) reply → Exchanges handed.maximum (plain_message (start_said handed user).document) (point old before) (point new after) reply
start_exchanged handed user first command old new before after reply start is e =
    subst (λ x. Exchanges handed.maximum (command_message x) (point old before) (point new after) reply) (is ∙ same_command handed user first start) e

-- ---- its reply

reply_refused : (handed : Handed) (user : User) (reply : List ℕ) (kind : ErrorKind) → FirstReplyRow reply kind ⊎ (kind ≡ OutOfMemory) → RefusedAtOnce (challenged handed user reply) kind
reply_refused handed user reply kind (inl row) = inl (inl row)
reply_refused handed user reply kind (inr memory) = inr (inl memory)

pub start_refused : (handed : Handed) (user : User) (reply held : List ℕ) (kind : ErrorKind) (old new : State) (before after : ℤ) → reply ≡ held → Exchanges handed.maximum (plain_message (start_said handed user).document) (point old before) (point new after) held → CountsStay old new → FirstReplyRow reply kind ⊎ (kind ≡ OutOfMemory)
    → StoppedKeeping (saying (start_said handed user) (challenged handed user)) kind (point old before) (point new after) None
start_refused handed user reply held kind old new before after same e counts row =
    refused_later (start_said handed user) (challenged handed user) held kind old new before after e counts
    (reply_refused handed user held kind (subst (λ r. FirstReplyRow r kind ⊎ (kind ≡ OutOfMemory)) same row))

pub start_opens : (handed : Handed) (user : User) (opened : Opened) (reply held : List ℕ) (old new : State) (before after : ℤ) → handed.speculated ≡ None → IsPlannedFirst handed user opened.client_first → nonce_of opened.client_first ≡ nonce_by handed → reply ≡ held
    → Exchanges handed.maximum (plain_message (start_said handed user).document) (point old before) (point new after) held → CountsStay old new → CarriesFirst reply opened.server_first → Opens handed user opened (point old before) (point new after)
start_opens handed user opened reply held old new before after none start nonce same e counts carries = record {
  message = start.message;
  nonce = nonce;
  reply = held;
  replied = subst (λ s. Replies s (start_said handed user) held (point old before) (point new after)) (sym none) (e, counts);
  carries = subst (λ r. CarriesFirst r opened.server_first) same carries;
}

-- ---- with a round that went with the hello, or without

abbrev opened_by : ScramLogin → ℤ → User → Option FirstRound → Plan Challenge
opened_by login maximum user found = opened (speculated_of found) (handed_by login found maximum) user

module _ {T : Type 0} (login : ScramLogin) (found : Option FirstRound) (maximum : ℤ) (user : User) where
  round_refused : (r : Result T Error) (round : FirstRound) → found ≡ Some round → IfErr r (λ e. FirstReplyRow round.server_first e.kind ⊎ (e.kind ≡ OutOfMemory)) → IfErr r (λ e. RefusedAtOnce (opened_by login maximum user found) e.kind)
  round_refused (Ok x) round is h = tt
  round_refused (Err x) round is h =
      subst (λ f. RefusedAtOnce (opened_by login maximum user f) x.kind) (sym is) (reply_refused (handed_by login (Some round) maximum) user round.server_first x.kind h)

  -- a round that went with the hello makes no exchange
  pub round_stops : {L : Type 0} (state : L → State) (r : Result T Error) (round : FirstRound) (old : Standing L) → found ≡ Some round → IfErr r (λ e. FirstReplyRow round.server_first e.kind ⊎ (e.kind ≡ OutOfMemory)) → StopsBy [] state (opened_by login maximum user found) r old old
  round_stops state r round old is h = no_exchange state (opened_by login maximum user found) old r (round_refused r round is h)

  pub start_stops : {L : Type 0} (state : L → State) (r : Result T Error) (old new : Standing L) → found ≡ None → StopsBy [] state (opened_by login maximum user None) r old new → StopsBy [] state (opened_by login maximum user found) r old new
  start_stops state r old new is stops = subst (λ f. StopsBy [] state (opened_by login maximum user f) r old new) (sym is) stops

  -- over a fault, only that opens
  pub round_alone : (r : Result T Error) (round : FirstRound) → found ≡ Some round → OnOk r (IsSome (speculated_of found))
  round_alone r round is = on_answer r _ (ap (λ f. is_some (speculated_of f)) is)

  pub start_alone : (r : Result T Error) (old new : Connection) (before after : FrameBuffer) (kind : ErrorKind) → kept_fault old ≡ Some kind → OnOk r (LeavesOneExchange old new before after) → OnOk r (IsSome (speculated_of found))
  start_alone (Ok x) old new before after kind is once = absurd (not_both_faults (kept_fault old) kind once.was is)
  start_alone (Err e) old new before after kind is once = tt

  -- what its one exchange leaves
  pub once_faultless : (r : Result T Error) (old new : Connection) (before after : FrameBuffer) → OnOk r (LeavesOneExchange old new before after) → OnOk r (kept_fault new ≡ None)
  once_faultless (Ok x) old new before after once = once.is
  once_faultless (Err e) old new before after once = tt

  pub once_frames : (r : Result T Error) (old new : Connection) (before after : FrameBuffer) → found ≡ None → OnOk r (LeavesOneExchange old new before after) → OnOk r (frames_taken after ≡ frames_opened found (frames_taken before))
  once_frames (Ok x) old new before after is once = subst (λ f. frames_taken after ≡ frames_opened f (frames_taken before)) (sym is) once.frames
  once_frames (Err e) old new before after is once = tt
