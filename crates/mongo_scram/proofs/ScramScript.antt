-- A SCRAM login's events are a login by the script, and a login by the script has such events.
use Rattle.std.proofs.Common.{◌≡◌, ℕ, Bool, false, true, refl, ap, sym, ◌∙◌, subst, Option, None, Some, List, [], ◌∷◌, ◌++◌}
use Rattle.mongo_bson.specs.declared.owned_value.OwnedValue.{OwnedValue}
use Rattle.mongo_sasl.specs.declared.sasl_response.SaslResponse.{SaslResponse}
use Rattle.mongo_sasl.specs.Reply.{IsSaslReply}
use Rattle.mongo_command.specs.Conversation.{Event}
use Rattle.mongo_scram.specs.Attributes.{verifier_attribute}
use Rattle.mongo_scram.specs.declared.server_final.ServerFinal.{ServerFinal}
use Rattle.mongo_scram.specs.declared.server_final.ServerFinalBody.TheVariants.{Verifier}
use Rattle.mongo_scram.specs.Base64.{base64_of}
use Rattle.mongo_scram.specs.Key.{PasswordRow}
use Rattle.mongo_scram.specs.ServerMessages.{IsServerFirst, SaysFinal}
use Rattle.mongo_scram.specs.User.{User, IsUser}
use Rattle.mongo_scram.specs.Plan.{Speculated, Handed, Challenge, salted_by, auth_message_by, verifier_by, start_said, close_said}
use Rattle.mongo_scram.specs.Script.{IsConversation, IsLoginFrom, IsScramLogin}
use Rattle.mongo_scram.proofs.NoRows.{verifier_in, valid_final_by}
use Rattle.mongo_scram.proofs.Octets.{verifier_bytes, verifier_text}
use Rattle.mongo_scram.proofs.OpeningEnds.{IsChallenged}
use Rattle.mongo_scram.proofs.ClosingEnds.{IsProved}
use Rattle.mongo_sasl.proofs.LoginEvents.{replies_in, documents_in}
use Rattle.mongo_scram.proofs.ScramEnds.{login_events, IsFirstReply, AreLoginEvents}

abbrev said_by : OwnedValue → Bool → List ℕ → SaslResponse
said_by id done payload = record { conversation_id = id; done = done; payload = payload }

-- the message that the server owes last
abbrev owed_by : Handed → Challenge → List ℕ
owed_by handed c = verifier_attribute ++ base64_of (verifier_by handed c)

-- ---- the conversation

first_said : (handed : Handed) (c : Challenge) (reply : List ℕ) → IsChallenged handed reply c → IsSaslReply reply (said_by c.first.conversation_id false c.first.message)
first_said handed c reply is =
    let carries = is.carries in
    let id : carries.sasl.conversation_id ≡ c.first.conversation_id = sym carries.conversation in
    let done : carries.sasl.done ≡ false = sym carries.done ∙ is.valid.0 in
    let payload : carries.sasl.payload ≡ c.first.message = sym carries.message in
    subst (IsSaslReply reply) (λ i. said_by (id i) (done i) (payload i)) carries.is_reply

last_payload : (handed : Handed) (c : Challenge) (reply : List ℕ) (is : IsProved handed c reply) → is.carries.sasl.payload ≡ owed_by handed c
last_payload handed c reply is =
    let says : SaysFinal is.carries.sasl.payload (Verifier (Some (verifier_by handed c))) = subst (SaysFinal is.carries.sasl.payload) (verifier_in is.last c.first.conversation_id (verifier_by handed c) is.valid) is.carries.says in
    says.1.1 ∙ ap (λ text. verifier_attribute ++ text) says.1.2.1

last_said : (handed : Handed) (c : Challenge) (reply : List ℕ) → IsProved handed c reply → IsSaslReply reply (said_by c.first.conversation_id true (owed_by handed c))
last_said handed c reply is =
    let carries = is.carries in
    let id : carries.sasl.conversation_id ≡ c.first.conversation_id = sym carries.conversation ∙ is.valid.0 in
    let done : carries.sasl.done ≡ true = sym carries.done ∙ is.done in
    let payload = last_payload handed c reply is in
    subst (IsSaslReply reply) (λ i. said_by (id i) (done i) (payload i)) carries.is_reply

conversation_of_challenge : (handed : Handed) (c : Challenge) (first last : List ℕ) → IsChallenged handed first c → IsProved handed c last → IsConversation handed c.user first (close_said handed c).document last
conversation_of_challenge handed c first last p q = record {
  challenge = c;
  is_user = refl;
  goes_on = p.valid;
  replied = first_said handed c first p;
  count = p.carries.count;
  is_first = subst (λ m. IsServerFirst m c.first.nonce c.first.salt p.carries.count) (sym p.carries.message) p.carries.is_first;
  is_count = p.carries.is_count;
  usable = p.usable;
  command_is = refl;
  ended = last_said handed c last q;
}

challenged_by : (handed : Handed) (user : User) (first close last : List ℕ) (is : IsConversation handed user first close last) → IsChallenged handed first is.challenge
challenged_by handed user first close last is = record {
  carries = record { sasl = said_by is.challenge.first.conversation_id false is.challenge.first.message; is_reply = is.replied; conversation = refl; done = is.goes_on.0; message = refl; count = is.count; is_first = is.is_first; is_count = is.is_count };
  valid = is.goes_on;
  usable = λ kind row. is.usable kind (subst (λ u. PasswordRow handed.version u.password kind) is.is_user row);
}

proved_by : (handed : Handed) (user : User) (first close last : List ℕ) (is : IsConversation handed user first close last) → IsProved handed is.challenge last
proved_by handed user first close last is =
    let c = is.challenge in
    let owed = verifier_by handed c in
    let final : ServerFinal = record { conversation_id = c.first.conversation_id; done = true; body = Verifier (Some owed) } in
    record {
      last = final;
      carries = record {
        sasl = said_by c.first.conversation_id true (owed_by handed c);
        is_reply = is.ended;
        conversation = refl;
        done = refl;
        says = (verifier_text owed, (base64_of owed, refl, (verifier_bytes handed.version (salted_by handed c) (auth_message_by handed c), refl)));
      };
      valid = valid_final_by final c.first.conversation_id owed refl refl;
      done = refl;
    }

-- ---- events to the script

from_events : (speculated : Option Speculated) (handed : Handed) (c : Challenge) (first last : List ℕ) → IsFirstReply speculated first → IsConversation handed c.user first (close_said handed c).document last
    → IsLoginFrom speculated handed c.user (documents_in (login_events speculated handed c first last)) (replies_in (login_events speculated handed c first last))
from_events None handed c first last is conversation = (first, (close_said handed c).document, last, refl, refl, conversation)
from_events (Some speculated) handed c first last is conversation =
    ((close_said handed c).document, last, refl, refl, subst (λ reply. IsConversation handed c.user reply (close_said handed c).document last) is conversation)

pub scram_login : (handed : Handed) (events : List Event) (c : Challenge) → AreLoginEvents handed events c → IsScramLogin handed (documents_in events) (replies_in events)
scram_login handed events c is = record {
  user = c.user;
  is_user = is.user;
  login = subst (λ x. IsLoginFrom handed.speculated handed c.user (documents_in x) (replies_in x)) (sym is.events_are) (from_events handed.speculated handed c is.first is.last is.first_is (conversation_of_challenge handed c is.first is.last is.challenged is.is_proved));
}

-- ---- the script to events

-- the conversation of a login by the script, and its two replies
record Found (speculated : Option Speculated) (handed : Handed) (user : User) (commands replies : List (List ℕ)) : Type 0 where
  first : List ℕ
  close : List ℕ
  last : List ℕ
  first_is : IsFirstReply speculated first
  conversation : IsConversation handed user first close last
  commands_are : commands ≡ documents_in (login_events speculated handed conversation.challenge first last)
  replies_are : replies ≡ replies_in (login_events speculated handed conversation.challenge first last)

found : (speculated : Option Speculated) (handed : Handed) (user : User) (commands replies : List (List ℕ)) → IsLoginFrom speculated handed user commands replies → Found speculated handed user commands replies
found None handed user commands replies is =
    let conversation = is.5 in
    let users = sym conversation.is_user in
    let closes = conversation.command_is in
    record {
      first = is.0;
      close = is.1;
      last = is.2;
      first_is = tt;
      conversation = conversation;
      commands_are = is.3 ∙ (λ i. (start_said handed (users i)).document ∷ closes i ∷ []);
      replies_are = is.4;
    }
found (Some speculated) handed user commands replies is =
    let conversation = is.4 in
    let closes = conversation.command_is in
    record {
      first = speculated.reply;
      close = is.0;
      last = is.1;
      first_is = refl;
      conversation = conversation;
      commands_are = is.2 ∙ (λ i. closes i ∷ []);
      replies_are = is.3;
    }

-- the events of a login by the script
pub record LoginEvents (handed : Handed) (commands replies : List (List ℕ)) : Type 0 where
  pub challenge : Challenge
  pub events : List Event
  pub is_login : AreLoginEvents handed events challenge
  pub commands_are : commands ≡ documents_in events
  pub replies_are : replies ≡ replies_in events

pub login_scram : (handed : Handed) (commands replies : List (List ℕ)) → IsScramLogin handed commands replies → LoginEvents handed commands replies
login_scram handed commands replies is =
    let f = found handed.speculated handed is.user commands replies is.login in
    let c = f.conversation.challenge in
    record {
      challenge = c;
      events = login_events handed.speculated handed c f.first f.last;
      is_login = record {
        user = subst (IsUser handed.credential) (sym f.conversation.is_user) is.is_user;
        first = f.first;
        last = f.last;
        first_is = f.first_is;
        events_are = refl;
        challenged = challenged_by handed is.user f.first f.close f.last f.conversation;
        is_proved = proved_by handed is.user f.first f.close f.last f.conversation;
      };
      commands_are = f.commands_are;
      replies_are = f.replies_are;
    }
