-- A credential names no user for one reason at most.
use Rattle.std.proofs.Common.{◌≡◌, ℕ, Option, Some, IsSome, is_some, List, ap}
use Rattle.mongo_wire.specs.declared.error.ErrorKind.TheVariants.{Authentication}
use Rattle.mongo_command.specs.Conversation.{no_demand, IsOne, HasNone}
use Rattle.mongo_command.proofs.Plans.{one_row_of, one_unmet, no_of, none_unmet}
use Rattle.mongo_sasl.specs.declared.credential.Credential.{Credential}
use Rattle.mongo_sasl.specs.Credential.{user_demands, NoUserRow}

pub one_no_user : (credential : Credential) → IsOne (NoUserRow credential)
one_no_user credential = one_row_of Authentication _ (one_unmet (user_demands credential no_demand))

pub there : (given : Option (List ℕ)) (text : List ℕ) → given ≡ Some text → IsSome given
there given text is = ap is_some is

-- and for none where it names one
pub user_named : (credential : Credential) (username password : List ℕ) → credential.username ≡ Some username → credential.password ≡ Some password → HasNone (NoUserRow credential)
user_named credential username password named known =
    no_of Authentication _ (none_unmet (user_demands credential no_demand) (
      there credential.username username named,
      (
        there credential.password password known,
        tt,
      ),
    ))
