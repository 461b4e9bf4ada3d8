-- A login may be by SCRAM.
use Rattle.std.proofs.Common.{◌≡◌, ◌∙◌, ℕ, refl, ap, subst, sym, Option, None, Some, List, []}
use Rattle.mongo_command.specs.Conversation.{Event, given_in}
use Rattle.mongo_command.specs.Helper.{Given}
use Rattle.mongo_sasl.specs.Login.{unasked}
use Rattle.mongo_sasl.proofs.Joining.{JoinsLogin}
use Rattle.mongo_sasl.proofs.LoginEvents.{replies_in, documents_in, AreWithin, LoginEnd}
use Rattle.mongo_scram.specs.Plan.{Speculated, Handed, Challenge, scram_plan}
use Rattle.mongo_scram.specs.Script.{IsScramLogin}
use Rattle.mongo_scram.proofs.ScramEnds.{login_events, scram_ended, scram_ends, AreLoginEvents}
use Rattle.mongo_scram.proofs.ScramFits.{fits_scram}
use Rattle.mongo_scram.proofs.ScramPlan.{one_scram}
use Rattle.mongo_scram.proofs.ScramScript.{login_scram, scram_login}

events_within : (speculated : Option Speculated) (handed : Handed) (c : Challenge) (first last : List ℕ) → AreWithin handed.maximum (login_events speculated handed c first last)
events_within None handed c first last = (refl, (refl, tt))
events_within (Some speculated) handed c first last = (refl, tt)

-- nothing is asked
events_given : (speculated : Option Speculated) (handed : Handed) (c : Challenge) (first last : List ℕ) → given_in (login_events speculated handed c first last) ≡ []
events_given None handed c first last = refl
events_given (Some speculated) handed c first last = refl

scram_given : (handed : Handed) (events : List Event) (c : Challenge) → AreLoginEvents handed events c → given_in events ≡ []
scram_given handed events c is = ap given_in is.events_are ∙ events_given handed.speculated handed c is.first is.last

scram_within : (handed : Handed) (events : List Event) (c : Challenge) → AreLoginEvents handed events c → AreWithin handed.maximum events
scram_within handed events c is = subst (AreWithin handed.maximum) (sym is.events_are) (events_within handed.speculated handed c is.first is.last)

scram_found : (handed : Handed) (events : List Event) (c : Challenge) → AreLoginEvents handed events c → unasked (IsScramLogin handed) (given_in events) (documents_in events) (replies_in events) × AreWithin handed.maximum events
scram_found handed events c is = ((scram_given handed events c is, scram_login handed events c is), scram_within handed events c is)

scram_end : (handed : Handed) (given : List Given) (commands replies : List (List ℕ)) → unasked (IsScramLogin handed) given commands replies → (c : Challenge) × LoginEnd (scram_plan handed) c handed.maximum given commands replies
scram_end handed given commands replies is =
    let found = login_scram handed commands replies is.1 in (
      found.challenge,
      record {
        events = found.events;
        given_is = is.0 ∙ sym (scram_given handed found.events found.challenge found.is_login);
        commands_are = found.commands_are;
        replies_are = found.replies_are;
        within = scram_within handed found.events found.challenge found.is_login;
        ends = λ sendable. scram_ends handed found.events found.challenge found.is_login sendable;
      },
    )

pub scram_joins : (handed : Handed) → JoinsLogin (scram_plan handed) (unasked (IsScramLogin handed)) handed.maximum
scram_joins handed = record {
  one = one_scram handed;
  fits = fits_scram handed;
  ended = λ events c e. scram_found handed events c (scram_ended handed events c e);
  ends = scram_end handed;
}
