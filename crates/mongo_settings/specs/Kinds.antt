-- What values of JSON mean to the keys of settings. None says that a value is of another kind.
use Rattle.std.specs.Prelude.{◌≡◌, ℕ, ℤ, pos, negsuc, ◌-◌, ◌^◌, ◌&&◌, ◌||◌, ◌++◌, Bool, true, false, nat_le, int_le, if◌then◌else◌, Option, None, Some, option_map, option_and_then, unwrap_or, Result, Ok, Err, List, [], ◌∷◌, bytes_eq, ⊤}
use Rattle.std.specs.Result.{result_ok}
use Rattle.hex.specs.Hex.{decode_of, decode_sized}
use Rattle.serde_json.specs.Data.{Data, Items, no_items, item, Members, no_members, member}
use Rattle.serde_json.specs.Find.{get, as_number, as_u64, as_i64, as_str, as_array, as_object}
use Rattle.mongo_bson.specs.declared.fault.BsonFault.{BsonFault}
use Rattle.mongo_bson.specs.declared.fault.BsonFault.TheVariants.{OutOfMemory as NoMemory}
use Rattle.mongo_scram.specs.Validity.{least_count}
use Rattle.mongo_establish.specs.declared.login_state.Nonces.{Nonces}
use Rattle.mongo_settings.specs.declared.settings.SettingsError.{SettingsError}
use Rattle.mongo_settings.specs.declared.settings.SettingsError.TheVariants.{BadSettings, NotBuilt, OutOfMemory}

-- one part after another: where one has no meaning, the whole has none
infixl 10 ◌>>=◌
abbrev pub ◌>>=◌ : {A B : Type 0} → Option A → (A → Option B) → Option B
None >>= f = None
Some x >>= f = f x

-- a rule of a kind
abbrev pub holds_or_none : Bool → Option ⊤
holds_or_none holds = if holds then Some tt else None

-- ---- objects

-- what a key's value means; none where the object hasn't the key
abbrev pub optional_in : {A : Type 0} → (Data → Option A) → Option Data → Option (Option A)
optional_in meaning None = Some None
optional_in meaning (Some value) = option_map Some (meaning value)

abbrev pub optional : {A : Type 0} → List ℕ → (Data → Option A) → Data → Option (Option A)
optional key meaning d = optional_in meaning (get key d)

-- what holds where a key is absent
abbrev pub or_absent : {A : Type 0} → A → Option (Option A) → Option A
or_absent default given = option_map (λ value. unwrap_or value default) given

-- what the value of a key means that has to be there
abbrev pub required : {A : Type 0} → List ℕ → (Data → Option A) → Data → Option A
required key meaning d = option_and_then meaning (get key d)

-- the test holds of each key of the object
unfoldable pub each_key : (List ℕ → Bool) → Members → Bool
each_key test no_members = true
each_key test (member key d others) = test key && each_key test others

unfoldable pub is_among : List (List ℕ) → List ℕ → Bool
is_among [] name = false
is_among (one ∷ names) name = bytes_eq one name || is_among names name

-- an object with no keys but these
abbrev pub object_of : List (List ℕ) → Data → Option ⊤
object_of names d = option_and_then (λ members. holds_or_none (each_key (is_among names) members)) (as_object d)

-- ---- arrays

-- an array of two values
abbrev pub two_of : Items → Option (Data × Data)
two_of no_items = None
two_of (item one no_items) = None
two_of (item one (item two no_items)) = Some (one, two)
two_of (item one (item two (item three others))) = None

abbrev pub two_in : Data → Option (Data × Data)
two_in d = option_and_then two_of (as_array d)

-- ---- numbers

-- a whole number from a minimum to a maximum
abbrev pub number_from : ℕ → ℕ → Data → Option ℕ
number_from minimum maximum d =
    option_and_then (λ n. if nat_le minimum n && nat_le n maximum then Some n else None) (option_and_then as_u64 (as_number d))

-- a port of TCP
abbrev pub port_in : Data → Option ℕ
port_in d = number_from 0 (2 ^ 16 - 1) d

-- an unsigned number of 32 bits
abbrev pub uint32_in : Data → Option ℕ
uint32_in d = number_from 0 (2 ^ 32 - 1) d

-- an int32
abbrev pub int32_in : Data → Option ℤ
int32_in d =
    option_and_then (λ n. if int_le (negsuc (2 ^ 31 - 1)) n && int_le n (pos (2 ^ 31 - 1)) then Some n else None) (option_and_then as_i64 (as_number d))

-- the most iterations of a login: no fewer than RFC 7677 asks for
abbrev pub iterations_in : Data → Option ℕ
iterations_in d = number_from least_count (2 ^ 32 - 1) d

-- ---- bytes

-- the bytes of a hex text, whose digits are an even number of either case
abbrev pub hex_of : List ℕ → Option (List ℕ)
hex_of text = result_ok (decode_of text)

abbrev pub hex_bytes : Data → Option (List ℕ)
hex_bytes d = option_and_then hex_of (as_str d)

-- the bytes of an array of hex texts, joined
unfoldable pub joined_hex : Items → Option (List ℕ)
joined_hex no_items = Some []
joined_hex (item d others) = option_and_then (λ bytes. option_map (λ more. bytes ++ more) (joined_hex others)) (hex_bytes d)

abbrev pub joined_hex_in : Data → Option (List ℕ)
joined_hex_in d = option_and_then joined_hex (as_array d)

-- bytes that have those that are meant at their end
abbrev pub IsHexJoined : Option (List ℕ) → List ℕ → List ℕ → Type 0
IsHexJoined None old new = ⊥
IsHexJoined (Some bytes) old new = new ≡ old ++ bytes

-- the 32 bytes of a nonce, by 64 hex digits
abbrev pub nonce_in : Data → Option (List ℕ)
nonce_in d = option_and_then (λ text. result_ok (decode_sized text 32)) (as_str d)

abbrev pub nonces_in : Data → Option Nonces
nonces_in d = do
  two ← two_in d
  first ← nonce_in two.0
  second ← nonce_in two.1
  Some (record { first = first; second = second })

-- ---- what a reader answers

-- Why it refuses: the value has no meaning. Want of memory may stand in its place.
abbrev pub MeansNothing : {B : Type 0} → SettingsError → Option B → Type 0
MeansNothing OutOfMemory meaning = ⊤
MeansNothing BadSettings meaning = meaning ≡ None
MeansNothing NotBuilt meaning = ⊥

abbrev pub Means : {A B : Type 0} → (A → B) → Result A SettingsError → Option B → Type 0
Means view (Ok x) meaning = meaning ≡ Some (view x)
Means view (Err e) meaning = MeansNothing e meaning

-- a value that no document of BSON can hold has no meaning
abbrev pub error_of : BsonFault → SettingsError
error_of NoMemory = OutOfMemory
error_of fault = BadSettings
