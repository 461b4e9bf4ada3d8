-- What a login's first exchange and its derivation show of its opening.
use Rattle.std.proofs.Common.{◌≡◌, ◌⊎◌, ℕ, ℤ, refl, ◌∙◌, subst, inl, inr, Option, None, Some, IsSome, List, []}
use Rattle.std.proofs.lemmas.Bool.{false≢true}
use Rattle.mongo_wire.specs.declared.error.ErrorKind.{ErrorKind}
use Rattle.mongo_wire.specs.declared.error.ErrorKind.TheVariants.{OutOfMemory}
use Rattle.mongo_wire.specs.Outside.{State}
use Rattle.mongo_command.specs.Conversation.{Said, Event, Turn, says, ends, HasNone, ending, unless, Reached, StoppedKeeping}
use Rattle.mongo_command.specs.Exchange.{point}
use Rattle.mongo_command.proofs.Steps.{reached_ending, reached_unless, reached_reading, reached_saying, stopped_more}
use Rattle.mongo_sasl.specs.Stops.{BeginsWithCommand, RefusedAtOnce}
use Rattle.mongo_sasl.proofs.AtOnce.{at_once_more, at_once_keeping, refused_later}
use Rattle.mongo_scram.specs.declared.login.Opened.{Opened}
use Rattle.mongo_scram.specs.declared.server_first.ServerFirst.{ServerFirst}
use Rattle.mongo_scram.specs.Client.{nonce_of}
use Rattle.mongo_scram.specs.Costs.{Ledgers, CostsNothing, FaultCosts}
use Rattle.mongo_scram.specs.Key.{PasswordRow}
use Rattle.mongo_scram.specs.Plan.{Speculated, Handed, Challenge, nonce_by, start_said, ChallengeRow, challenged, opened, opening, AnswerRow}
use Rattle.mongo_scram.specs.Replies.{CarriesFirst, FirstReplyRow}
use Rattle.mongo_scram.specs.Login.{Replies, Opens}
use Rattle.mongo_scram.specs.User.{User, IsUser, CredentialRow}
use Rattle.mongo_scram.specs.Validity.{IsValidFirst, ServerFirstRow}
use Rattle.mongo_command.proofs.Plans.{none_else}
use Rattle.mongo_scram.proofs.NoRows.{valid_first_row}
use Rattle.mongo_scram.proofs.OneMessage.{no_first_row}
use Rattle.mongo_scram.proofs.OneRow.{no_credential_row}
use Rattle.mongo_scram.proofs.ScramPlan.{challenge_by_first}

-- ---- the opening

opened_reached : (speculated : Option Speculated) (handed : Handed) (user : User) (reply : List ℕ) (c : Challenge) (old new : State) (before after : ℤ) → Replies speculated (start_said handed user) reply (point old before) (point new after) → Reached (challenged handed user reply) c (point new after) (point new after) → Reached (opened speculated handed user) c (point old before) (point new after)
opened_reached None handed user reply c old new before after replied r = reached_saying (start_said handed user) (challenged handed user) reply c old new new before after after replied.0 replied.1 r
opened_reached (Some speculated) handed user reply c old new before after replied r =
    subst (λ id. Reached (challenged handed user speculated.reply) c (point old id) (point new after)) replied.2
    (subst (λ state. Reached (challenged handed user speculated.reply) c (point state after) (point new after)) replied.1
    (subst (λ x. Reached (challenged handed user x) c (point new after) (point new after)) replied.0 r))

opened_refused : (speculated : Option Speculated) (handed : Handed) (user : User) (reply : List ℕ) (kind : ErrorKind) (old new : State) (before after : ℤ) → Replies speculated (start_said handed user) reply (point old before) (point new after) → RefusedAtOnce (challenged handed user reply) kind → StoppedKeeping (opened speculated handed user) kind (point old before) (point new after) None
opened_refused None handed user reply kind old new before after replied r = refused_later (start_said handed user) (challenged handed user) reply kind old new before after replied.0 replied.1 r
opened_refused (Some speculated) handed user reply kind old new before after replied r =
    subst (λ id. StoppedKeeping (challenged handed user speculated.reply) kind (point old id) (point new after) None) replied.2
    (subst (λ state. StoppedKeeping (challenged handed user speculated.reply) kind (point state after) (point new after) None) replied.1
    (at_once_keeping (challenged handed user speculated.reply) kind new after (subst (λ x. RefusedAtOnce (challenged handed user x) kind) replied.0 r)))

-- a refusal by the credential's tests, and a stop after them
pub opening_refused : (handed : Handed) (kind : ErrorKind) → CredentialRow handed.credential kind → RefusedAtOnce (opening handed) kind
opening_refused handed kind row = inl (inl row)

after_tests : (handed : Handed) (user : User) → IsUser handed.credential user → (past : List Event) (turn : Turn Challenge) → opened handed.speculated handed user past turn → opening handed past turn
after_tests handed user is past turn h = inr (no_credential_row handed.credential user is, (user, is, h))

pub user_stopped : {kept : Option ErrorKind} (handed : Handed) (user : User) (kind : ErrorKind) (old new : State) (before after : ℤ) → IsUser handed.credential user → StoppedKeeping (opened handed.speculated handed user) kind (point old before) (point new after) kept → StoppedKeeping (opening handed) kind (point old before) (point new after) kept
user_stopped handed user kind old new before after is s = stopped_more (opened handed.speculated handed user) (opening handed) kind old new before after (after_tests handed user is) s

pub user_refused : (handed : Handed) (user : User) (kind : ErrorKind) → IsUser handed.credential user → RefusedAtOnce (opened handed.speculated handed user) kind → RefusedAtOnce (opening handed) kind
user_refused handed user kind is r = at_once_more (opened handed.speculated handed user) (opening handed) kind (after_tests handed user is []) r

challenge_none : (handed : Handed) (user : User) (first : ServerFirst) → IsValidFirst first (nonce_by handed) handed.max_iterations → HasNone (PasswordRow handed.version user.password) → HasNone (ChallengeRow handed (challenge_by_first user first))
challenge_none handed user first valid usable = none_else (ServerFirstRow first (nonce_by handed) handed.max_iterations) (PasswordRow handed.version user.password) (valid_first_row first (nonce_by handed) handed.max_iterations valid) usable

pub opening_reached : (handed : Handed) (user : User) (o : Opened) (old new : State) (before after : ℤ) → IsUser handed.credential user → Opens handed user o (point old before) (point new after) → IsValidFirst o.server_first (nonce_of o.client_first) handed.max_iterations → HasNone (PasswordRow handed.version user.password) → Reached (opening handed) (challenge_by_first user o.server_first) (point old before) (point new after)
opening_reached handed user o old new before after is opens valid usable =
    let c = challenge_by_first user o.server_first in
    let none = challenge_none handed user o.server_first (subst (λ nonce. IsValidFirst o.server_first nonce handed.max_iterations) opens.nonce valid) usable in
    reached_unless (CredentialRow handed.credential) _ c old new before after (no_credential_row handed.credential user is)
    (reached_reading (IsUser handed.credential) (opened handed.speculated handed) user c old new before after is
    (opened_reached handed.speculated handed user opens.reply c old new before after opens.replied
    (reached_unless (FirstReplyRow opens.reply) _ c new new after after (no_first_row opens.reply o.server_first opens.carries)
    (reached_reading (CarriesFirst opens.reply) _ o.server_first c new new after after opens.carries
    (reached_unless (ChallengeRow handed c) (ending c) c new new after after none (reached_ending c new after))))))

-- with a first round that went with the hello, it ends at once
opened_at_once : (speculated : Option Speculated) (handed : Handed) (user : User) (reply : List ℕ) (c : Challenge) (old new : State) (before after : ℤ) → IsSome speculated → Replies speculated (start_said handed user) reply (point old before) (point new after) → challenged handed user reply [] (ends c) → opened speculated handed user [] (ends c)
opened_at_once None handed user reply c old new before after some replied turn = absurd (false≢true some)
opened_at_once (Some speculated) handed user reply c old new before after some replied turn = subst (λ x. challenged handed user x [] (ends c)) replied.0 turn

pub opening_at_once : (handed : Handed) (user : User) (o : Opened) (old new : State) (before after : ℤ) → IsSome handed.speculated → IsUser handed.credential user → Opens handed user o (point old before) (point new after) → IsValidFirst o.server_first (nonce_of o.client_first) handed.max_iterations → HasNone (PasswordRow handed.version user.password) → opening handed [] (ends (challenge_by_first user o.server_first))
opening_at_once handed user o old new before after some is opens valid usable =
    let c = challenge_by_first user o.server_first in
    let none = challenge_none handed user o.server_first (subst (λ nonce. IsValidFirst o.server_first nonce handed.max_iterations) opens.nonce valid) usable in
    let turn : challenged handed user opens.reply [] (ends c) = inr (no_first_row opens.reply o.server_first opens.carries, (o.server_first, opens.carries, inr (none, refl))) in
    inr (no_credential_row handed.credential user is, (user, is, opened_at_once handed.speculated handed user opens.reply c old new before after some opens.replied turn))

heard_at_once : (speculated : Option Speculated) (handed : Handed) (user : User) (reply : List ℕ) (kind : ErrorKind) (old new : State) (before after : ℤ) → IsSome speculated → Replies speculated (start_said handed user) reply (point old before) (point new after) → RefusedAtOnce (challenged handed user reply) kind → RefusedAtOnce (opened speculated handed user) kind
heard_at_once None handed user reply kind old new before after some replied r = absurd (false≢true some)
heard_at_once (Some speculated) handed user reply kind old new before after some replied r = subst (λ x. RefusedAtOnce (challenged handed user x) kind) replied.0 r

-- it begins with a command only without one
heard_unsaid : (handed : Handed) (user : User) (reply : List ℕ) (said : Said) → challenged handed user reply [] (says said) → ⊥
heard_unsaid handed user reply said (inl row) = row
heard_unsaid handed user reply said (inr heard) = elim heard.1.2 [ inl row ↦ row | inr ended ↦ let same : ◌≡◌ {A = Turn Challenge} (says said) (ends (challenge_by_first user heard.1.0)) = ended.1 in let no : ⊥ = cc in no ]

opened_anew : (speculated : Option Speculated) (handed : Handed) (user : User) (said : Said) → opened speculated handed user [] (says said) → speculated ≡ None
opened_anew None handed user said turn = refl
opened_anew (Some speculated) handed user said turn = absurd (heard_unsaid handed user speculated.reply said turn)

-- its command wasn't said
pub start_unsaid : (handed : Handed) (user : User) (first last : Ledgers) → IsUser handed.credential user → BeginsWithCommand (opened handed.speculated handed user) → CostsNothing first last → FaultCosts handed first last
start_unsaid handed user first last is begins nothing = inl (record { user = user; is_user = is; anew = opened_anew handed.speculated handed user begins.0 begins.1; costs = nothing })

-- ---- a refusal before anything was derived

answer_row : (handed : Handed) (c : Challenge) (kind : ErrorKind) → ChallengeRow handed c kind ⊎ (kind ≡ OutOfMemory) → RefusedAtOnce {A = Challenge} (unless (ChallengeRow handed c) (ending c)) kind
answer_row handed c kind (inl row) = inl (inl row)
answer_row handed c kind (inr memory) = inr (inl memory)

module _ (handed : Handed) (user : User) (o : Opened) (nonce : List ℕ) (kind : ErrorKind) (old new : State) (before after : ℤ) (is : IsUser handed.credential user) (opens : Opens handed user o (point old before) (point new after)) (same : nonce ≡ nonce_of o.client_first)
    (row : AnswerRow o.server_first nonce handed.max_iterations handed.version user.password kind ⊎ (kind ≡ OutOfMemory)) where
  answer_heard : RefusedAtOnce (challenged handed user opens.reply) kind
  answer_heard =
      let c = challenge_by_first user o.server_first in
      at_once_more (unless (ChallengeRow handed c) (ending c)) (challenged handed user opens.reply) kind (λ turn h. inr (no_first_row opens.reply o.server_first opens.carries, (o.server_first, opens.carries, h)))
      (answer_row handed c kind (subst (λ n. AnswerRow o.server_first n handed.max_iterations handed.version user.password kind ⊎ (kind ≡ OutOfMemory)) (same ∙ opens.nonce) row))

  pub answer_stopped : StoppedKeeping (opening handed) kind (point old before) (point new after) None
  answer_stopped = user_stopped handed user kind old new before after is (opened_refused handed.speculated handed user opens.reply kind old new before after opens.replied answer_heard)

  -- with a first round that went with the hello, it comes before any exchange
  pub answer_refused : IsSome handed.speculated → RefusedAtOnce (opening handed) kind
  answer_refused some = user_refused handed user kind is (heard_at_once handed.speculated handed user opens.reply kind old new before after some opens.replied answer_heard)
