-- A SCRAM login that was followed to its end is one command and its reply after another, and the other way round.
use Rattle.std.proofs.Common.{◌≡◌, ℕ, refl, ap, sym, ◌∙◌, subst, Option, None, Some, List, [], ◌∷◌, ◌++◌}
use Rattle.mongo_command.specs.Conversation.{Event, exchanged, IsSendable, said_in}
use Rattle.mongo_command.proofs.Ends.{PlanEnds, ends_followed, ends_both}
use Rattle.mongo_sasl.proofs.LoginEvents.{AreSendable}
use Rattle.mongo_scram.specs.User.{IsUser}
use Rattle.mongo_scram.specs.Plan.{Speculated, Handed, Challenge, start_said, close_said, opening, closing, scram_plan}
use Rattle.mongo_scram.proofs.ScramPlan.{one_opening}
use Rattle.mongo_scram.proofs.OpeningEnds.{IsChallenged, OpensByEvents, IsOpened, CanOpen, opening_ended, opening_ends}
use Rattle.mongo_scram.proofs.ClosingEnds.{IsProved, IsClosed, closing_ended, closing_ends}

-- ---- events

-- the events of a login: one command and its reply, where a first round went with the hello, or two
abbrev pub login_events : Option Speculated → Handed → Challenge → List ℕ → List ℕ → List Event
login_events None handed c first last = exchanged (start_said handed c.user) first ∷ exchanged (close_said handed c) last ∷ []
login_events (Some speculated) handed c first last = exchanged (close_said handed c) last ∷ []

-- the reply with the server's first message is that of the first round, where there was one
abbrev pub IsFirstReply : Option Speculated → List ℕ → Type 0
IsFirstReply None first = Unit {0}
IsFirstReply (Some speculated) first = first ≡ speculated.reply

-- the events are a login's, by this challenge
pub record AreLoginEvents (handed : Handed) (events : List Event) (c : Challenge) : Type 0 where
  pub user : IsUser handed.credential c.user
  pub first : List ℕ
  pub last : List ℕ
  pub first_is : IsFirstReply handed.speculated first
  pub events_are : events ≡ login_events handed.speculated handed c first last
  pub challenged : IsChallenged handed first c
  pub is_proved : IsProved handed c last

-- ---- an end is a login

first_reply : (speculated : Option Speculated) (handed : Handed) (c : Challenge) (front : List Event) (reply : List ℕ) → OpensByEvents speculated handed c front reply → IsFirstReply speculated reply
first_reply None handed c front reply by = tt
first_reply (Some speculated) handed c front reply by = by.1

joined : (speculated : Option Speculated) (handed : Handed) (c : Challenge) (front back : List Event) (first last : List ℕ) → OpensByEvents speculated handed c front first → back ≡ exchanged (close_said handed c) last ∷ [] → front ++ back ≡ login_events speculated handed c first last
joined None handed c front back first last by is = ap (λ x. x ++ back) by ∙ ap (λ x. exchanged (start_said handed c.user) first ∷ x) is
joined (Some speculated) handed c front back first last by is = ap (λ x. x ++ back) by.0 ∙ is

login_of : (handed : Handed) (events front back : List Event) (c : Challenge) → events ≡ front ++ back → IsOpened handed front c → IsClosed handed c back → AreLoginEvents handed events c
login_of handed events front back c is o e = record {
  user = o.user;
  first = o.reply;
  last = e.reply;
  first_is = first_reply handed.speculated handed c front o.reply o.events_are;
  events_are = is ∙ joined handed.speculated handed c front back o.reply e.reply o.events_are e.events_are;
  challenged = o.challenged;
  is_proved = e.is_proved;
}

pub scram_ended : (handed : Handed) (events : List Event) (c : Challenge) → PlanEnds (scram_plan handed) events c → AreLoginEvents handed events c
scram_ended handed events c e =
    let split = ends_followed (opening handed) (closing handed) events c (one_opening handed) e in
    let back = closing_ended handed split.answer split.more c split.second in
    subst (AreLoginEvents handed events) (sym back.0) (login_of handed events split.front split.more split.answer split.events_are (opening_ended handed split.front split.answer split.first) back.1)

-- ---- and a login is an end

-- what stands before the last command and its reply
front_of : Option Speculated → Handed → Challenge → List ℕ → List Event
front_of None handed c first = exchanged (start_said handed c.user) first ∷ []
front_of (Some speculated) handed c first = []

split_events : (speculated : Option Speculated) (handed : Handed) (c : Challenge) (first last : List ℕ) → login_events speculated handed c first last ≡ front_of speculated handed c first ++ exchanged (close_said handed c) last ∷ []
unfolding front_of
split_events None handed c first last = refl
split_events (Some speculated) handed c first last = refl

opens_by : (speculated : Option Speculated) (handed : Handed) (c : Challenge) (first : List ℕ) → IsFirstReply speculated first → OpensByEvents speculated handed c (front_of speculated handed c first) first
unfolding front_of
opens_by None handed c first is = refl
opens_by (Some speculated) handed c first is = (refl, is)

both_sendable : (speculated : Option Speculated) (handed : Handed) (c : Challenge) (first last : List ℕ) → AreSendable (said_in (login_events speculated handed c first last)) → CanOpen speculated handed c.user × IsSendable (close_said handed c)
both_sendable None handed c first last are = (are.0, are.1.0)
both_sendable (Some speculated) handed c first last are = (tt, are.0)

pub scram_ends : (handed : Handed) (events : List Event) (c : Challenge) → AreLoginEvents handed events c → AreSendable (said_in events) → PlanEnds (scram_plan handed) events c
scram_ends handed events c is are =
    let front = front_of handed.speculated handed c is.first in
    let back : List Event = exchanged (close_said handed c) is.last ∷ [] in
    let sendable = both_sendable handed.speculated handed c is.first is.last (subst (λ x. AreSendable (said_in x)) is.events_are are) in
    let opened : PlanEnds (opening handed) front c = opening_ends handed front c sendable.0 (record { user = is.user; reply = is.first; events_are = opens_by handed.speculated handed c is.first is.first_is; challenged = is.challenged }) in
    let closed : PlanEnds (closing handed c) back c = closing_ends handed c back sendable.1 (record { reply = is.last; events_are = refl; is_proved = is.is_proved }) in
    subst (λ x. PlanEnds (scram_plan handed) x c) (sym (is.events_are ∙ split_events handed.speculated handed c is.first is.last)) (ends_both (opening handed) (closing handed) front back c c opened closed)
