-- The commands and replies of a login's events, as documents and as bytes, and what a helper gave; their frames have one maximum.
use Rattle.std.proofs.Common.{◌≡◌, ℕ, ℤ, pos, ◌≤ℤ◌, refl, sym, subst, List, [], ◌∷◌, length, map, append-nil}
use Rattle.mongo_wire.specs.Bytes.{next_id, IsSentWithin, IsWholeWithin}
use Rattle.mongo_command.specs.Conversation.{Said, Event, exchanged, asked, Plan, ends, IsSendable, said_in, given_in, IsSaid, IsHeard, LeadsGiven}
use Rattle.mongo_command.specs.Helper.{Given}
use Rattle.mongo_command.proofs.Ends.{PlanEnds}
use Rattle.mongo_command.proofs.OneSaid.{framed_sendable}
use Rattle.mongo_sasl.specs.Login.{HasLogin}

-- ---- documents

-- the replies of events, and the documents of their commands
abbrev pub replies_in : List Event → List (List ℕ)
replies_in [] = []
replies_in (exchanged said reply ∷ events) = reply ∷ replies_in events
replies_in (asked question answer ∷ events) = replies_in events

abbrev pub documents_in : List Event → List (List ℕ)
documents_in events = map (λ said. said.document) (said_in events)

-- the commands can be sent
abbrev pub AreSendable : List Said → Type 0
AreSendable [] = Unit {0}
AreSendable (said ∷ more) = IsSendable said × AreSendable more

-- each command has this maximum
abbrev pub AreWithin : ℤ → List Event → Type 0
AreWithin maximum [] = Unit {0}
AreWithin maximum (exchanged said reply ∷ events) = (said.maximum ≡ maximum) × AreWithin maximum events
AreWithin maximum (asked question answer ∷ events) = AreWithin maximum events

-- ---- bytes

pub within_sent : (maximum : ℤ) (events : List Event) (id : ℤ) (bytes : List ℕ) → AreWithin maximum events → IsSaid (said_in events) id bytes → IsSentWithin maximum maximum (documents_in events) id bytes
within_sent maximum [] id bytes within said = said
within_sent maximum (exchanged s reply ∷ events) id bytes within said =
    (said.0, said.1, said.2, said.3, subst (λ most. pos (length said.0) ≤ℤ most) within.0 said.4, within_sent maximum events (next_id id) said.1 within.1 said.5)
within_sent maximum (asked question answer ∷ events) id bytes within said = within_sent maximum events id bytes within said

pub events_sent_within : (maximum : ℤ) (events : List Event) (id : ℤ) (bytes : List ℕ) → AreWithin maximum events → IsSentWithin maximum maximum (documents_in events) id bytes → IsSaid (said_in events) id bytes
events_sent_within maximum [] id bytes within sent = sent
events_sent_within maximum (exchanged s reply ∷ events) id bytes within sent =
    (sent.0, sent.1, sent.2, sent.3, subst (λ most. pos (length sent.0) ≤ℤ most) (sym within.0) sent.4, events_sent_within maximum events (next_id id) sent.1 within.1 sent.5)
events_sent_within maximum (asked question answer ∷ events) id bytes within sent = events_sent_within maximum events id bytes within sent

pub within_heard : (maximum : ℤ) (events : List Event) (bytes : List ℕ) → AreWithin maximum events → IsHeard events bytes → IsWholeWithin maximum maximum (replies_in events) bytes
within_heard maximum [] bytes within heard = heard
within_heard maximum (exchanged s reply ∷ events) bytes within heard =
    (heard.0, heard.1, heard.2, heard.3, heard.4, heard.5, subst (λ most. pos (length heard.0) ≤ℤ most) within.0 heard.6, within_heard maximum events heard.1 within.1 heard.7)
within_heard maximum (asked question answer ∷ events) bytes within heard = within_heard maximum events bytes within heard

pub heard_within : (maximum : ℤ) (events : List Event) (bytes : List ℕ) → AreWithin maximum events → IsWholeWithin maximum maximum (replies_in events) bytes → IsHeard events bytes
heard_within maximum [] bytes within whole = whole
heard_within maximum (exchanged s reply ∷ events) bytes within whole =
    (whole.0, whole.1, whole.2, whole.3, whole.4, whole.5, subst (λ most. pos (length whole.0) ≤ℤ most) (sym within.0) whole.6, heard_within maximum events whole.1 within.1 whole.7)
heard_within maximum (asked question answer ∷ events) bytes within whole = heard_within maximum events bytes within whole

-- commands that have frames can be sent
pub said_sendable : (said : List Said) (id : ℤ) (bytes : List ℕ) → IsSaid said id bytes → AreSendable said
said_sendable [] id bytes is = tt
said_sendable (s ∷ said) id bytes is = (framed_sendable s is.0 id is.3 is.4, said_sendable said (next_id id) is.1 is.5)

-- ---- a login by the script

-- its events, and that the plan ends by them where its commands can be sent
pub record LoginEnd {A : Type 0} (plan : Plan A) (answer : A) (maximum : ℤ) (given : List Given) (commands replies : List (List ℕ)) : Type 0 where
  pub events : List Event
  pub given_is : given ≡ given_in events
  pub commands_are : commands ≡ documents_in events
  pub replies_are : replies ≡ replies_in events
  pub within : AreWithin maximum events
  pub ends : AreSendable (said_in events) → PlanEnds plan events answer

-- what an end tells of its events
abbrev pub EndsBy : {A : Type 0} → (List Given → List (List ℕ) → List (List ℕ) → Type 0) → A → ℤ → List Event → A → Type 0
EndsBy login wanted maximum events answer = (answer ≡ wanted) × login (given_in events) (documents_in events) (replies_in events) × AreWithin maximum events

-- bytes that have a login lead the plan to its end
pub record EndLeads {A : Type 0} (given : List Given) (plan : Plan A) (answer : A) (bytes taken rest : List ℕ) : Type 0 where
  pub commands : List Said
  pub leads : LeadsGiven given plan bytes (ends answer) commands taken rest

pub login_leads : {A : Type 0} (plan : Plan A) (IsLogin : List Given → List (List ℕ) → List (List ℕ) → Type 0) (answer : A) (maximum id : ℤ) (bytes : List ℕ) (has : HasLogin IsLogin maximum id bytes) → LoginEnd plan answer maximum has.given has.commands has.replies → EndLeads has.given plan answer bytes has.taken has.rest
login_leads plan IsLogin answer maximum id bytes has l =
    let said : IsSaid (said_in l.events) id has.sent = events_sent_within maximum l.events id has.sent l.within (subst (λ c. IsSentWithin maximum maximum c id has.sent) l.commands_are has.is_sent) in
    let heard : IsHeard l.events has.taken = heard_within maximum l.events has.taken l.within (subst (λ r. IsWholeWithin maximum maximum r has.taken) l.replies_are has.is_taken) in
    let e = l.ends (said_sendable (said_in l.events) id has.sent said) in
    record {
      commands = said_in l.events;
      leads = record {
        events = l.events;
        follows = e.follows;
        given_is = l.given_is;
        heard = has.taken;
        heard_is = heard;
        turn = ends answer;
        turn_is = e.answer_is;
        unanswered = [];
        last = [];
        comes_to = (refl, refl, refl);
        commands_are = sym (append-nil (said_in l.events));
        taken_is = sym (append-nil has.taken);
        joined = has.joined;
      };
    }
