-- The accounts of settings: which of them counts for a user and a mechanism, and which mechanisms a user has.
use Rattle.std.specs.Prelude.{◌≡◌, ◌↔◌, ℕ, Bool, true, false, Option, None, Some, List, ◌∷◌, ◌++◌, Contains, IsTrue}
use Rattle.std.specs.Borrow.{Bor}
use Rattle.std.specs.List.{AllByRecursion}
use Rattle.mongo_scram.specs.declared.scram_version.ScramVersion.{ScramVersion}
use Rattle.mongo_scram.specs.declared.scram_version.ScramVersion.TheVariants as version
use Rattle.mongo_session.specs.declared.reply.Mechanisms.{Mechanisms}
use Rattle.mongo_session.specs.declared.reply.Mechanisms.TheVariants.{Sha1, Sha256, Both}
use Rattle.mongo_session.specs.declared.serve_settings.Account.{Account}

-- two accounts of one user by one mechanism
abbrev pub AreOfOneUser : Account → Account → Type 0
AreOfOneUser a b = (a.version ≡ b.version) × (a.name ≡ b.name)

-- An account counts: it is the first of its user by its mechanism.
pub record IsFirstAccount (accounts : List Account) (account : Account) : Type 0 where
  pub before : List Account
  pub after : List Account
  pub split : accounts ≡ before ++ (account ∷ after)
  pub first : AllByRecursion (λ other. AreOfOneUser other account → ⊥) before

-- an account of this user by this mechanism
abbrev pub IsOf : List ℕ → ScramVersion → Account → Type 0
IsOf user version account = (account.version ≡ version) × (account.name ≡ user)

abbrev pub HasAccount : List Account → List ℕ → ScramVersion → Type 0
HasAccount accounts user version = (account : Account) × Contains accounts account × IsOf user version account

-- ---- the mechanisms that a hello lists

-- whether one is listed
abbrev pub is_listed : Option Mechanisms → ScramVersion → Bool
is_listed None v = false
is_listed (Some Both) v = true
is_listed (Some Sha1) version.Sha1 = true
is_listed (Some Sha1) version.Sha256 = false
is_listed (Some Sha256) version.Sha1 = false
is_listed (Some Sha256) version.Sha256 = true

-- those by which the user has an account are listed, and no other
abbrev pub ListsAccounts : List Account → List ℕ → Option Mechanisms → Type 0
ListsAccounts accounts user listed = (version : ScramVersion) → IsTrue (is_listed listed version) ↔ HasAccount accounts user version

-- those of the user that is asked for; none where no user is
abbrev pub AreMechanismsOf : List Account → Option (Bor (List ℕ)) → Option Mechanisms → Type 0
AreMechanismsOf accounts None listed = listed ≡ None
AreMechanismsOf accounts (Some user) listed = ListsAccounts accounts user.now listed
