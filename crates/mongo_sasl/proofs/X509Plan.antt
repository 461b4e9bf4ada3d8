-- The plan of an X.509 login has one turn, and its end is a login by the script, and the other way round.
use Rattle.std.proofs.Common.{◌≡◌, ℕ, Bool, true, false, refl, ap, sym, ◌∙◌, subst, inr, List, [], ◌∷◌}
use Rattle.mongo_bson.specs.Document.{Element}
use Rattle.mongo_wire.specs.declared.auth_fault.AuthFault.TheVariants.{Malformed, X509Failed}
use Rattle.mongo_wire.specs.declared.error.ErrorKind.TheVariants.{Authentication}
use Rattle.mongo_command.specs.Conversation.{Event, exchanged, ends, given_in, IsOne, HasNone, HasOneTurn}
use Rattle.mongo_command.specs.Field.{field_of}
use Rattle.mongo_command.proofs.Ends.{PlanEnds, ends_ending, ends_unless, ends_reading, ends_saying}
use Rattle.mongo_command.proofs.Plans.{no_of, no_row, none_else, one_else, one_row_of, one_row, one_ending, one_unless, one_reading, one_saying}
use Rattle.mongo_sasl.specs.X509.{AcceptsCertificate, IsCertificateAccepted, IsFailed, X509Row, X509Handed, x509_said, x509_heard, x509_plan_from, x509_plan, IsAnsweredX509, IsX509LoginFrom, IsX509Login}
use Rattle.mongo_sasl.specs.Login.{unasked}
use Rattle.mongo_sasl.proofs.LoginEvents.{replies_in, documents_in, AreWithin, LoginEnd, EndsBy}
use Rattle.mongo_sasl.proofs.OneReply.{same_elements}
use Rattle.mongo_command.specs.Hello.{IsSuccess}
use Rattle.mongo_command.specs.Keys.{ok_key}

-- ---- the reply

not_failed : (reply : List ℕ) (elements : List Element) → AcceptsCertificate reply elements → IsFailed reply → ⊥
not_failed reply elements taken failed = failed.failed (subst (λ es. IsSuccess (field_of ok_key es)) (same_elements reply elements failed.elements taken.well_formed failed.well_formed) taken.ok)

pub certificate_no_row : (reply : List ℕ) (elements : List Element) → AcceptsCertificate reply elements → HasNone (X509Row reply)
certificate_no_row reply elements taken =
    no_of Authentication _
    (none_else _ _ (no_row Malformed _ (λ none. none elements taken.well_formed))
    (no_row X509Failed _ (not_failed reply elements taken)))

one_x509_row : (reply : List ℕ) → IsOne (X509Row reply)
one_x509_row reply = one_row_of Authentication _ (one_else _ _ (one_row Malformed _) (one_row X509Failed _))

one_taken : (reply : List ℕ) → IsOne (AcceptsCertificate reply)
one_taken reply = λ a b p q. same_elements reply a b p.well_formed q.well_formed

-- ---- one turn

one_heard : (reply : List ℕ) → HasOneTurn (x509_heard reply)
one_heard reply = one_unless _ _ (one_x509_row reply) (one_reading _ _ (one_taken reply) (λ elements. one_ending tt))

one_from : (speculated : Bool) (handed : X509Handed) → HasOneTurn (x509_plan_from speculated handed)
one_from true handed = one_ending tt
one_from false handed = one_saying (x509_said handed) x509_heard one_heard

pub one_x509 : (handed : X509Handed) → HasOneTurn (x509_plan handed)
one_x509 handed = one_from handed.speculated handed

-- ---- an end is a login

heard_ended : (reply : List ℕ) (events : List Event) (answer : Unit {0}) → PlanEnds (x509_heard reply) events answer → (events ≡ []) × IsCertificateAccepted reply
heard_ended reply events answer e =
    let read = ends_reading (AcceptsCertificate reply) _ events answer (one_taken reply) (ends_unless (X509Row reply) _ events answer e).1 in
    ((ends_ending tt events answer read.2).0, (read.0, read.1))

from_ended : (speculated : Bool) (handed : X509Handed) (events : List Event) (answer : Unit {0}) → PlanEnds (x509_plan_from speculated handed) events answer → EndsBy (unasked (IsX509LoginFrom speculated handed)) tt handed.maximum events answer
from_ended true handed events answer e =
    let none = (ends_ending tt events answer e).0 in
    (refl, (ap given_in none, (ap documents_in none, ap replies_in none)), subst (AreWithin handed.maximum) (sym none) tt)
from_ended false handed events answer e =
    let said = ends_saying (x509_said handed) x509_heard events answer e in
    let heard = heard_ended said.reply said.more answer said.rest in
    let are : events ≡ exchanged (x509_said handed) said.reply ∷ [] = said.events_are ∙ ap (λ more. exchanged (x509_said handed) said.reply ∷ more) heard.0 in
    let login : IsAnsweredX509 handed ((x509_said handed).document ∷ []) (said.reply ∷ []) = record { commands_are = refl; reply = said.reply; replies_are = refl; taken = heard.1 } in
    (refl, subst (λ x. unasked (IsAnsweredX509 handed) (given_in x) (documents_in x) (replies_in x)) (sym are) (refl, login), subst (AreWithin handed.maximum) (sym are) (refl, tt))

pub x509_ended : (handed : X509Handed) (events : List Event) (answer : Unit {0}) → PlanEnds (x509_plan handed) events answer → EndsBy (unasked (IsX509Login handed)) tt handed.maximum events answer
x509_ended handed events answer e = from_ended handed.speculated handed events answer e

-- ---- and a login is an end

heard_turn : (reply : List ℕ) → IsCertificateAccepted reply → x509_heard reply [] (ends tt)
heard_turn reply taken = inr (certificate_no_row reply taken.0 taken.1, (taken.0, taken.1, refl))

from_ends : (speculated : Bool) (handed : X509Handed) (commands replies : List (List ℕ)) → IsX509LoginFrom speculated handed commands replies → LoginEnd (x509_plan_from speculated handed) tt handed.maximum [] commands replies
from_ends true handed commands replies is = record { events = []; given_is = refl; commands_are = is.0; replies_are = is.1; within = tt; ends = λ sendable. record { follows = tt; answer_is = refl } }
from_ends false handed commands replies is = record {
  events = exchanged (x509_said handed) is.reply ∷ [];
  given_is = refl;
  commands_are = is.commands_are;
  replies_are = is.replies_are;
  within = (refl, tt);
  ends = λ sendable. record { follows = (refl, sendable.0, tt); answer_is = heard_turn is.reply is.taken };
}

pub x509_ends : (handed : X509Handed) (commands replies : List (List ℕ)) → IsX509Login handed commands replies → LoginEnd (x509_plan handed) tt handed.maximum [] commands replies
x509_ends handed commands replies is = from_ends handed.speculated handed commands replies is
