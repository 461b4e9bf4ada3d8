-- What a mechanism's plan owes so that a login may be by it.
use Rattle.std.proofs.Common.{ℕ, ℤ, List}
use Rattle.mongo_wire.specs.declared.error.ErrorKind.TheVariants.{IncompatibleServer}
use Rattle.mongo_command.specs.Conversation.{Event, Plan, HasOneTurn, given_in}
use Rattle.mongo_command.specs.Helper.{Given}
use Rattle.mongo_command.proofs.Ends.{PlanEnds}
use Rattle.mongo_command.proofs.Leads.{Never}
use Rattle.mongo_sasl.proofs.LoginEvents.{replies_in, documents_in, AreWithin, LoginEnd}

-- It has one turn, never refuses by `IncompatibleServer`, which is the refusal of whoever establishes the connection, and ends
-- by just the answers, commands and replies that are its login.
pub record JoinsLogin {A : Type 0} (plan : Plan A) (login : List Given → List (List ℕ) → List (List ℕ) → Type 0) (maximum : ℤ) : Type 0 where
  pub one : HasOneTurn plan
  pub fits : Never IncompatibleServer plan
  pub ended : (events : List Event) (answer : A) → PlanEnds plan events answer → login (given_in events) (documents_in events) (replies_in events) × AreWithin maximum events
  pub ends : (given : List Given) (commands replies : List (List ℕ)) → login given commands replies → (answer : A) × LoginEnd plan answer maximum given commands replies
