-- What an opening that was followed to its end says of its events, and the other way round.
use Rattle.std.proofs.Common.{◌≡◌, ℕ, refl, ap, sym, ◌∙◌, subst, inr, Option, None, Some, List, [], ◌∷◌}
use Rattle.mongo_command.specs.Conversation.{Event, exchanged, Turn, ends, Plan, HasNone, ending, IsSendable}
use Rattle.mongo_command.proofs.Ends.{PlanEnds, ends_ending, ends_unless, ends_reading, ends_saying}
use Rattle.mongo_command.proofs.Talked.{follows_more}
use Rattle.mongo_scram.specs.User.{User, IsUser}
use Rattle.mongo_scram.specs.Key.{PasswordRow}
use Rattle.mongo_scram.specs.Replies.{CarriesFirst}
use Rattle.mongo_scram.specs.Validity.{IsValidFirst, ServerFirstRow}
use Rattle.mongo_scram.specs.Plan.{Speculated, Handed, Challenge, nonce_by, start_said, ChallengeRow, challenged, opened, opening}
use Rattle.mongo_scram.proofs.OneMessage.{one_carried_first, no_first_row}
use Rattle.mongo_scram.proofs.OneRow.{one_user, no_credential_row}
use Rattle.mongo_command.proofs.Plans.{none_first, none_second, none_else}
use Rattle.mongo_scram.proofs.NoRows.{valid_first, valid_first_row}
use Rattle.mongo_scram.proofs.ScramPlan.{challenge_by_first}

-- the reply asks this of a user, who goes on
pub record IsChallenged (handed : Handed) (reply : List ℕ) (c : Challenge) : Type 0 where
  pub carries : CarriesFirst reply c.first
  pub valid : IsValidFirst c.first (nonce_by handed) handed.max_iterations
  pub usable : HasNone (PasswordRow handed.version c.user.password)

-- ---- after the reply

challenged_ended : (handed : Handed) (user : User) (reply : List ℕ) (events : List Event) (c : Challenge) → PlanEnds (challenged handed user reply) events c → (events ≡ []) × (c.user ≡ user) × IsChallenged handed reply c
challenged_ended handed user reply events c e =
    let read = ends_reading (CarriesFirst reply) _ events c (one_carried_first reply) (ends_unless _ _ events c e).1 in
    let made = challenge_by_first user read.0 in
    let passed = ends_unless (ChallengeRow handed made) (ending made) events c read.2 in
    let end = ends_ending made events c passed.1 in
    let asked : IsChallenged handed reply made = record {
      carries = read.1;
      valid = valid_first read.0 (nonce_by handed) handed.max_iterations (none_first (ServerFirstRow read.0 (nonce_by handed) handed.max_iterations) (PasswordRow handed.version user.password) passed.0);
      usable = none_second (ServerFirstRow read.0 (nonce_by handed) handed.max_iterations) (PasswordRow handed.version user.password) passed.0;
    } in
    (end.0, ap (λ x. x.user) end.1, subst (IsChallenged handed reply) (sym end.1) asked)

challenged_turn : (handed : Handed) (reply : List ℕ) (c : Challenge) → IsChallenged handed reply c → challenged handed c.user reply [] (ends c)
challenged_turn handed reply c is =
    let none = none_else (ServerFirstRow c.first (nonce_by handed) handed.max_iterations) (PasswordRow handed.version c.user.password) (valid_first_row c.first (nonce_by handed) handed.max_iterations is.valid) is.usable in
    inr (no_first_row reply c.first is.carries, (c.first, is.carries, inr (none, refl)))

-- ---- the first command, unless it went with the hello

-- the events that stand before the closing, and the reply with the server's first message
abbrev pub OpensByEvents : Option Speculated → Handed → Challenge → List Event → List ℕ → Type 0
OpensByEvents None handed c events reply = events ≡ exchanged (start_said handed c.user) reply ∷ []
OpensByEvents (Some speculated) handed c events reply = (events ≡ []) × (reply ≡ speculated.reply)

-- what an opening that ended tells
pub record IsOpened (handed : Handed) (events : List Event) (c : Challenge) : Type 0 where
  pub user : IsUser handed.credential c.user
  pub reply : List ℕ
  pub events_are : OpensByEvents handed.speculated handed c events reply
  pub challenged : IsChallenged handed reply c

opened_ended : (speculated : Option Speculated) (handed : Handed) (user : User) (events : List Event) (c : Challenge) → PlanEnds (opened speculated handed user) events c → (c.user ≡ user) × ((reply : List ℕ) × OpensByEvents speculated handed c events reply × IsChallenged handed reply c)
opened_ended None handed user events c e =
    let said = ends_saying (start_said handed user) (challenged handed user) events c e in
    let asked = challenged_ended handed user said.reply said.more c said.rest in
    (asked.1, (said.reply, said.events_are ∙ ap (λ more. exchanged (start_said handed user) said.reply ∷ more) asked.0 ∙ ap (λ u. exchanged (start_said handed u) said.reply ∷ []) (sym asked.1), asked.2))
opened_ended (Some speculated) handed user events c e =
    let asked = challenged_ended handed user speculated.reply events c e in
    (asked.1, (speculated.reply, (asked.0, refl), asked.2))

pub opening_ended : (handed : Handed) (events : List Event) (c : Challenge) → PlanEnds (opening handed) events c → IsOpened handed events c
opening_ended handed events c e =
    let read = ends_reading (IsUser handed.credential) _ events c (one_user handed.credential) (ends_unless _ _ events c e).1 in
    let found = opened_ended handed.speculated handed read.0 events c read.2 in
    record {
      user = subst (IsUser handed.credential) (sym found.0) read.1;
      reply = found.1.0;
      events_are = found.1.1;
      challenged = found.1.2;
    }

-- ---- and back

-- the command of the opening can be sent, where it isn't said already
abbrev pub CanOpen : Option Speculated → Handed → User → Type 0
CanOpen None handed user = IsSendable (start_said handed user)
CanOpen (Some speculated) handed user = Unit {0}

opened_ends : (speculated : Option Speculated) (handed : Handed) (events : List Event) (c : Challenge) (reply : List ℕ) → CanOpen speculated handed c.user → OpensByEvents speculated handed c events reply → IsChallenged handed reply c → PlanEnds (opened speculated handed c.user) events c
opened_ends None handed events c reply sendable are is =
    subst (λ x. PlanEnds (opened None handed c.user) x c) (sym are) (record { follows = (refl, sendable, tt); answer_is = challenged_turn handed reply c is })
opened_ends (Some speculated) handed events c reply sendable are is =
    subst (λ x. PlanEnds (opened (Some speculated) handed c.user) x c) (sym are.0) (record { follows = tt; answer_is = subst (λ r. challenged handed c.user r [] (ends c)) are.1 (challenged_turn handed reply c is) })

ends_more : (plan other : Plan Challenge) (events : List Event) (c : Challenge) → ((past : List Event) (turn : Turn Challenge) → plan past turn → other past turn) → PlanEnds plan events c → PlanEnds other events c
ends_more plan other events c more e = record { follows = follows_more plan other events e.follows more; answer_is = more events (ends c) e.answer_is }

pub opening_ends : (handed : Handed) (events : List Event) (c : Challenge) → CanOpen handed.speculated handed c.user → IsOpened handed events c → PlanEnds (opening handed) events c
opening_ends handed events c sendable is =
    ends_more (opened handed.speculated handed c.user) (opening handed) events c
    (λ past turn h. inr (no_credential_row handed.credential c.user is.user, (c.user, is.user, h)))
    (opened_ends handed.speculated handed events c is.reply sendable is.events_are is.challenged)
