-- A credential has one user, and each step of a login is refused for one reason at most.
use Rattle.std.proofs.Common.{◌≡◌, ℕ, Option, None, Some, IsSome, unwrap_or, List, refl, sym, ◌∙◌}
use Rattle.std.proofs.lemmas.Bool.{false≢true}
use Rattle.mongo_bson.specs.declared.owned_value.OwnedValue.{OwnedValue}
use Rattle.mongo_wire.specs.declared.error.ErrorKind.TheVariants.{Authentication}
use Rattle.mongo_command.specs.Command.{admin}
use Rattle.mongo_command.specs.Conversation.{IsOne, HasNone}
use Rattle.mongo_command.proofs.Plans.{all_met, no_of, none_unmet, of_denied, one_else, one_row_of, one_row, one_unmet}
use Rattle.mongo_sasl.specs.declared.credential.Credential.{Credential}
use Rattle.mongo_sasl.proofs.NoUser.{there}
use Rattle.mongo_scram.specs.declared.scram_version.ScramVersion.{ScramVersion}
use Rattle.mongo_scram.specs.declared.scram_version.ScramVersion.TheVariants.{Sha1, Sha256}
use Rattle.mongo_scram.specs.declared.server_first.ServerFirst.{ServerFirst}
use Rattle.mongo_scram.specs.declared.server_final.ServerFinal.{ServerFinal}
use Rattle.mongo_scram.specs.Key.{PasswordRow}
use Rattle.mongo_scram.specs.User.{User, IsUser, credential_demands, CredentialRow}
use Rattle.mongo_scram.specs.Validity.{first_demands, ServerFirstRow, final_demands, ServerFinalRow}

-- ---- credentials

same_some : {A : Type 0} (o : Option A) (a b : A) → o ≡ Some a → o ≡ Some b → a ≡ b
same_some o a b p q = let is : Some a ≡ Some b = sym p ∙ q in cc

abbrev user_made : List ℕ → List ℕ → List ℕ → User
user_made username password source = record { username = username; password = password; source = source }

same_user : (a b c d e f : List ℕ) → a ≡ b → c ≡ d → e ≡ f → user_made a c e ≡ user_made b d f
same_user a b c d e f p q r = λ x. user_made (p x) (q x) (r x)

pub one_user : (credential : Credential) → IsOne (IsUser credential)
one_user credential = λ a b p q.
    same_user a.username b.username a.password b.password a.source b.source
    (same_some credential.username a.username b.username p.username q.username)
    (same_some credential.password a.password b.password p.password q.password)
    (p.source ∙ sym q.source)

pub one_credential_row : (credential : Credential) → IsOne (CredentialRow credential)
one_credential_row credential = one_row_of Authentication _ (one_unmet (credential_demands credential))

-- a credential with a user isn't refused
pub no_credential_row : (credential : Credential) (user : User) → IsUser credential user → HasNone (CredentialRow credential)
no_credential_row credential user is =
    no_of Authentication _ (none_unmet (credential_demands credential) (
      there credential.username user.username is.username,
      (
        there credential.password user.password is.password,
        (
          is.properties,
          tt,
        ),
      ),
    ))

stable_some : {X : Type 0} (o : Option X) → ((IsSome o → ⊥) → ⊥) → IsSome o
stable_some None denied = absurd (denied (λ some. false≢true some))
stable_some (Some x) denied = refl

stable_none : {X : Type 0} (o : Option X) → ((o ≡ None → ⊥) → ⊥) → o ≡ None
stable_none None denied = refl
stable_none (Some x) denied = absurd (denied (λ none. let no : ⊥ = cc in no))

value_in : {X : Type 0} (o : Option X) → IsSome o → (x : X) × (o ≡ Some x)
value_in None some = absurd (false≢true some)
value_in (Some x) some = (x, refl)

-- and one that isn't has a user
pub user_in : (credential : Credential) → HasNone (CredentialRow credential) → (user : User) × IsUser credential user
user_in credential none =
    let met =
    all_met (credential_demands credential) (
      stable_some credential.username,
      (
        stable_some credential.password,
        (
          stable_none credential.mechanism_properties,
          tt,
        ),
      ),
    )
    (of_denied Authentication _ none) in
    let username = value_in credential.username met.0 in
    let password = value_in credential.password met.1.0 in
    let user : User = record { username = username.0; password = password.0; source = unwrap_or credential.source admin } in
    (user, record { username = username.1; password = password.1; properties = met.1.1.0; source = refl })

-- ---- passwords

pub one_password_row : (version : ScramVersion) (password : List ℕ) → IsOne (PasswordRow version password)
one_password_row Sha1 password = λ a b p q. absurd p
one_password_row Sha256 password = one_else _ _ (one_row _ _) (one_row _ _)

-- ---- whether the client goes on

pub one_valid_first_row : (first : ServerFirst) (nonce : List ℕ) (max_iterations : ℕ) → IsOne (ServerFirstRow first nonce max_iterations)
one_valid_first_row first nonce max_iterations = one_row_of Authentication _ (one_unmet (first_demands first nonce max_iterations))

-- ---- whether the server has proved itself

pub one_valid_final_row : (last : ServerFinal) (id : OwnedValue) (owed : List ℕ) → IsOne (ServerFinalRow last id owed)
one_valid_final_row last id owed = one_row_of Authentication _ (one_unmet (final_demands last id owed))
