-- What a request costs: the rounds of the key that is derived for it (RFC 5802, section 3).
use Rattle.std.specs.Prelude.{◌≡◌, ℕ, ◌+◌, ◌≤◌, ◌⊎◌, Option, None, Some, List, [], ◌∷◌, option_copied}
use Rattle.mongo_scram.specs.Key.{PasswordRow}
use Rattle.mongo_wire.specs.declared.error.ErrorKind.{ErrorKind}
use Rattle.mongo_session.specs.declared.request.Request.{Request}
use Rattle.mongo_session.specs.declared.request.Request.TheVariants.{Hello, SaslStart}
use Rattle.mongo_session.specs.declared.request.StartRequest.{StartRequest}
use Rattle.mongo_session.specs.declared.serve_settings.Account.{Account}
use Rattle.mongo_session.specs.declared.serve_settings.ServeSettings.{ServeSettings}
use Rattle.mongo_session.specs.Started.{IsFound}
use Rattle.mongo_session.specs.Requests.{SaysRequest}

-- ---- what is derived

-- the account's mechanism takes its password
abbrev pub HasUsablePassword : Account → Type 0
HasUsablePassword account = (kind : ErrorKind) → PasswordRow account.version account.password kind → ⊥

-- the rounds of an account's key: its count, and none where its mechanism doesn't take its password
abbrev pub KeyRounds : Account → ℕ → Type 0
KeyRounds account rounds = (HasUsablePassword account × (rounds ≡ account.count)) ⊎ ((HasUsablePassword account → ⊥) × (rounds ≡ 0))

-- A `saslStart` finds the first account of its mechanism whose user its message names, whatever follows as the nonce.
pub record StartFinds (settings : ServeSettings) (start : StartRequest) (account : Account) : Type 0 where
  pub message : List ℕ
  pub said : option_copied start.payload ≡ Some message
  pub version_is : start.version ≡ Some account.version
  pub found : IsFound settings.accounts account.version message account

-- the key of the account that it finds is derived, and nothing where it finds none
abbrev pub StartRounds : ServeSettings → StartRequest → ℕ → Type 0
StartRounds settings start rounds =
    ((account : Account) × StartFinds settings start account × KeyRounds account rounds) ⊎ (((account : Account) → StartFinds settings start account → ⊥) × (rounds ≡ 0))

-- where a login may begin
abbrev pub CarriedRounds : ServeSettings → Option StartRequest → ℕ → Type 0
CarriedRounds settings None rounds = rounds ≡ 0
CarriedRounds settings (Some start) rounds = StartRounds settings start rounds

-- a hello and a `saslStart` alone begin a login
abbrev pub RequestRounds : ServeSettings → Request → ℕ → Type 0
RequestRounds settings (Hello hello) rounds = CarriedRounds settings hello.speculation rounds
RequestRounds settings (SaslStart start) rounds = StartRounds settings start rounds
RequestRounds settings other rounds = rounds ≡ 0

-- a document, by what it asks for
pub record DocumentRounds (settings : ServeSettings) (document : List ℕ) (rounds : ℕ) : Type 0 where
  pub request : Request
  pub says : SaysRequest document request
  pub derived : RequestRounds settings request rounds

-- documents, one after another
abbrev pub AllRounds : ServeSettings → List (List ℕ) → ℕ → Type 0
AllRounds settings [] rounds = rounds ≡ 0
AllRounds settings (document ∷ documents) rounds = (here : ℕ) × (more : ℕ) × (rounds ≡ here + more) × DocumentRounds settings document here × AllRounds settings documents more

-- ---- what the counter of steps says of it

-- it rose by just the rounds that are derived
abbrev pub CostsRounds : (ℕ → Type 0) → ℕ → ℕ → Type 0
CostsRounds Rounds old new = (rounds : ℕ) × Rounds rounds × (new ≡ old + rounds)

-- it rose by no more than these
abbrev pub CostsAtMost : (ℕ → Type 0) → ℕ → ℕ → Type 0
CostsAtMost Rounds old new = (old ≤ new) × ((new ≡ old) ⊎ ((rounds : ℕ) × Rounds rounds × (new ≤ old + rounds)))
