-- What an establishment takes of the counter and of the cache of salted passwords over told bytes, by the key that they lead to.
use Rattle.std.specs.Prelude.{◌≡◌, ℕ, ◌⊎◌, Option, None, Some, Result, Ok, Err, List}
use Rattle.mongo_wire.specs.declared.error.ErrorKind.{ErrorKind}
use Rattle.mongo_wire.specs.declared.error.ErrorKind.TheVariants.{IncompatibleServer, OutOfMemory}
use Rattle.mongo_wire.specs.Outside.{State, Unfailed}
use Rattle.mongo_scram.specs.declared.cache.SaltedKey.{SaltedKey}
use Rattle.mongo_scram.specs.Cache.{entries_of, Adds}
use Rattle.mongo_scram.specs.Costs.{Ledgers, HasEntry, Derives, SameEntries, CostsNothing}
use Rattle.mongo_scram.specs.Entry.{salted_of}
use Rattle.mongo_establish.specs.declared.establisher.EstablishError.{EstablishError}
use Rattle.mongo_establish.specs.Setup.{Setup}
use Rattle.mongo_establish.specs.Derivation.{LeadsToKey}

-- ---- what a key costs

-- The key was derived where it had no entry, and has one now; the entries are those that were there, or these and that one.
pub record StoresKey (key : SaltedKey) (first last : Ledgers) : Type 0 where
  pub derived : Derives key first last
  pub entry : HasEntry last.cache key
  pub others : SameEntries first last ⊎ Adds (entries_of first.cache) (entries_of last.cache) (key, salted_of key)

-- the key was derived where it had no entry, and isn't put in
pub record SpendsKey (key : SaltedKey) (first last : Ledgers) : Type 0 where
  pub derived : Derives key first last
  pub entries : SameEntries first last

-- a login that was accepted; without a key it takes nothing
abbrev pub AcceptedKeyCosts : Option SaltedKey → Ledgers → Ledgers → Type 0
AcceptedKeyCosts None first last = CostsNothing first last
AcceptedKeyCosts (Some key) first last = StoresKey key first last

-- a login that was refused
abbrev pub RefusedKeyCosts : Option SaltedKey → Ledgers → Ledgers → Type 0
RefusedKeyCosts None first last = CostsNothing first last
RefusedKeyCosts (Some key) first last = SpendsKey key first last

-- ---- over told bytes

-- the bytes lead to this key, and it was taken so
pub record LedToKey (setup : Setup) (bytes : List ℕ) (takes : Option SaltedKey → Type 0) : Type 0 where
  pub key : Option SaltedKey
  pub leads : LeadsToKey setup bytes key
  pub taken : takes key

-- the server names no service: the login's key was put in
pub record UnnamedOver (setup : Setup) (kind : ErrorKind) (bytes : List ℕ) (first last : Ledgers) : Type 0 where
  pub kind_is : kind ≡ IncompatibleServer
  pub led : LedToKey setup bytes (λ key. AcceptedKeyCosts key first last)

-- the handshake was refused: the login's key, if it came so far, was derived and isn't put in
pub record RefusedOver (setup : Setup) (kind : ErrorKind) (bytes : List ℕ) (first last : Ledgers) : Type 0 where
  pub other : kind ≡ IncompatibleServer → ⊥
  pub led : LedToKey setup bytes (λ key. RefusedKeyCosts key first last)

-- what an establishment costs over these bytes, unless memory ran out
abbrev pub CostsOver : {T : Type 0} → Result T EstablishError → Setup → List ℕ → Ledgers → Ledgers → Type 0
CostsOver (Ok pooled) setup bytes first last = LedToKey setup bytes (λ key. AcceptedKeyCosts key first last)
CostsOver (Err e) setup bytes first last = (e.cause.kind ≡ OutOfMemory) ⊎ (UnnamedOver setup e.cause.kind bytes first last ⊎ RefusedOver setup e.cause.kind bytes first last)

-- where a link tells its bytes and doesn't fail, they decide what an establishment costs
pub record CostsAsLed {T : Type 0} (result : Result T EstablishError) (setup : Setup) (old new : State) (first last : Ledgers) : Type 0 where
  pub over : (bytes : List ℕ) → old.left ≡ Some bytes → Unfailed old new → CostsOver result setup bytes first last
