-- The plan of a PLAIN login has one turn, and its end is a login by the script, and the other way round.
use Rattle.std.proofs.Common.{◌≡◌, ℕ, Bool, true, false, refl, ap, sym, ◌∙◌, subst, inr, Some, List, [], ◌∷◌}
use Rattle.mongo_wire.specs.declared.auth_fault.AuthFault.TheVariants.{Malformed}
use Rattle.mongo_wire.specs.declared.error.ErrorKind.{ErrorKind}
use Rattle.mongo_wire.specs.declared.error.ErrorKind.TheVariants.{Authentication}
use Rattle.mongo_command.specs.Conversation.{Event, exchanged, ends, given_in, IsOne, HasNone, HasOneTurn, ending}
use Rattle.mongo_command.proofs.Ends.{PlanEnds, ends_ending, ends_unless, ends_reading, ends_saying}
use Rattle.mongo_command.proofs.Plans.{one_ending, one_unless, one_reading, one_saying}
use Rattle.mongo_sasl.specs.declared.credential.Credential.{Credential}
use Rattle.mongo_sasl.specs.declared.sasl_response.SaslResponse.{SaslResponse}
use Rattle.mongo_sasl.specs.Plain.{PlainUser, IsPlainUser, PlainRow, PlainHanded, plain_said, UnfinishedRow, plain_heard, plain_plan, IsPlainLogin, IsFinished}
use Rattle.mongo_sasl.specs.Reply.{IsSaslReply, SaslRow}
use Rattle.mongo_sasl.specs.Login.{unasked}
use Rattle.mongo_sasl.proofs.LoginEvents.{replies_in, documents_in, AreWithin, LoginEnd, EndsBy}
use Rattle.mongo_sasl.proofs.NoUser.{one_no_user, user_named}
use Rattle.mongo_sasl.proofs.OneReply.{one_sasl_reply, one_sasl_row, sasl_reply_no_row}

-- ---- the credential

same_some : (a b : List ℕ) → Some a ≡ Some b → a ≡ b
same_some a b e = cc

user_by : List ℕ → List ℕ → List ℕ → PlainUser
user_by username password source = record { username = username; password = password; source = source }

one_plain_user : (credential : Credential) → IsOne (IsPlainUser credential)
unfolding user_by
one_plain_user credential = λ a b p q.
    let names = same_some a.username b.username (sym p.username ∙ q.username) in
    let passwords = same_some a.password b.password (sym p.password ∙ q.password) in
    let sources = p.source ∙ sym q.source in
    λ i. user_by (names i) (passwords i) (sources i)

pub no_plain_row : (credential : Credential) (user : PlainUser) → IsPlainUser credential user → HasNone (PlainRow credential)
no_plain_row credential user is = user_named credential user.username user.password is.username is.password

-- ---- the reply

one_unfinished : (sasl : SaslResponse) → IsOne (UnfinishedRow sasl)
one_unfinished sasl = λ a b p q. p.0 ∙ sym q.0

pub finished_no_row : (sasl : SaslResponse) → sasl.done ≡ true → HasNone (UnfinishedRow sasl)
finished_no_row sasl done kind row = let no : true ≡ false = sym done ∙ row.1 in cc

done_is : (done : Bool) → ((kind : ErrorKind) → (kind ≡ Authentication Malformed) × (done ≡ false) → ⊥) → done ≡ true
done_is true none = refl
done_is false none = absurd (none (Authentication Malformed) (refl, refl))

-- ---- one turn

one_heard : (reply : List ℕ) → HasOneTurn (plain_heard reply)
one_heard reply = one_unless _ _ (one_sasl_row reply) (one_reading _ _ (one_sasl_reply reply) (λ sasl. one_unless _ _ (one_unfinished sasl) (one_ending tt)))

pub one_plain : (handed : PlainHanded) → HasOneTurn (plain_plan handed)
one_plain handed = one_unless _ _ (one_no_user handed.credential) (one_reading _ _ (one_plain_user handed.credential) (λ user. one_saying (plain_said handed user) plain_heard one_heard))

-- ---- an end is a login

heard_ended : (reply : List ℕ) (events : List Event) (answer : Unit {0}) → PlanEnds (plain_heard reply) events answer → (events ≡ []) × IsFinished reply
heard_ended reply events answer e =
    let read = ends_reading (IsSaslReply reply) _ events answer (one_sasl_reply reply) (ends_unless (SaslRow reply) _ events answer e).1 in
    let passed = ends_unless (UnfinishedRow read.0) (ending tt) events answer read.2 in
    ((ends_ending tt events answer passed.1).0, record { sasl = read.0; is_reply = read.1; done = done_is read.0.done passed.0 })

pub plain_ended : (handed : PlainHanded) (events : List Event) (answer : Unit {0}) → PlanEnds (plain_plan handed) events answer → EndsBy (unasked (IsPlainLogin handed)) tt handed.maximum events answer
plain_ended handed events answer e =
    let read = ends_reading (IsPlainUser handed.credential) _ events answer (one_plain_user handed.credential) (ends_unless (PlainRow handed.credential) _ events answer e).1 in
    let said = ends_saying (plain_said handed read.0) plain_heard events answer read.2 in
    let heard = heard_ended said.reply said.more answer said.rest in
    let are : events ≡ exchanged (plain_said handed read.0) said.reply ∷ [] = said.events_are ∙ ap (λ more. exchanged (plain_said handed read.0) said.reply ∷ more) heard.0 in
    let login : IsPlainLogin handed ((plain_said handed read.0).document ∷ []) (said.reply ∷ []) = record { user = read.0; is_user = read.1; commands_are = refl; reply = said.reply; replies_are = refl; finished = heard.1 } in
    (refl, subst (λ x. unasked (IsPlainLogin handed) (given_in x) (documents_in x) (replies_in x)) (sym are) (refl, login), subst (AreWithin handed.maximum) (sym are) (refl, tt))

-- ---- and a login is an end

heard_turn : (reply : List ℕ) → IsFinished reply → plain_heard reply [] (ends tt)
heard_turn reply is = inr (sasl_reply_no_row reply is.sasl is.is_reply, (is.sasl, is.is_reply, inr (finished_no_row is.sasl is.done, refl)))

pub plain_ends : (handed : PlainHanded) (commands replies : List (List ℕ)) → IsPlainLogin handed commands replies → LoginEnd (plain_plan handed) tt handed.maximum [] commands replies
plain_ends handed commands replies is =
    let said = plain_said handed is.user in
    let none = no_plain_row handed.credential is.user is.is_user in
    record {
      events = exchanged said is.reply ∷ [];
      given_is = refl;
      commands_are = is.commands_are;
      replies_are = is.replies_are;
      within = (refl, tt);
      ends = λ sendable. record { follows = (inr (none, (is.user, is.is_user, refl)), sendable.0, tt); answer_is = inr (none, (is.user, is.is_user, heard_turn is.reply is.finished)) };
    }
