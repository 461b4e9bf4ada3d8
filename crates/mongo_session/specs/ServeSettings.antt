-- Settings: the text of one JSON object in UTF-8. Who may log in, in the order of the text, and what is put behind a client's nonce.
-- None says that a value, or the text, is of another kind.
use Rattle.std.specs.Prelude.{◌≡◌, ℕ, ◌-◌, ◌^◌, ◌&&◌, ◌++◌, ◌==◌, not, Bool, false, nat_le, if◌then◌else◌, Option, None, Some, option_and_then, Result, Ok, Err, List, [], ◌∷◌, map, codes, bytes_eq, ⊤}
use Rattle.std.specs.List.{list_all}
use Rattle.std.specs.Result.{result_ok}
use Rattle.std.specs.Str.{is_utf8}
use Rattle.hex.specs.Hex.{decode_of}
use Rattle.serde_json.specs.Data.{Data, Items, no_items, item}
use Rattle.serde_json.specs.Find.{get, as_number, as_u64, as_str, as_array}
use Rattle.serde_json.specs.Read.{read}
use Rattle.mongo_sasl.specs.declared.mechanism.AuthMechanism.{AuthMechanism}
use Rattle.mongo_sasl.specs.declared.mechanism.AuthMechanism.TheVariants.{ScramSha1, ScramSha256}
use Rattle.mongo_scram.specs.Validity.{least_count}
use Rattle.mongo_scram.specs.Version.{version_name}
use Rattle.mongo_scram.specs.declared.scram_version.ScramVersion.{ScramVersion}
use Rattle.mongo_scram.specs.declared.scram_version.ScramVersion.TheVariants.{Sha1, Sha256}
use Rattle.mongo_session.specs.declared.serve_settings.Account.{Account}
use Rattle.mongo_session.specs.declared.serve_settings.ServeSettings.{ServeSettings}
use Rattle.mongo_session.specs.declared.serve_settings.reading.ServeSettingsError.{ServeSettingsError}
use Rattle.mongo_session.specs.declared.serve_settings.reading.ServeSettingsError.TheVariants.{BadSettings, OutOfMemory}

-- one part after another: where one has no meaning, the whole has none
abbrev pub after_part : {A B : Type 0} → Option A → (A → Option B) → Option B
after_part None f = None
after_part (Some x) f = f x

-- ---- what the values of keys mean

abbrev pub text_under : List ℕ → Data → Option (List ℕ)
text_under key d = option_and_then as_str (get key d)

abbrev pub items_in : List ℕ → Data → Option Items
items_in key d = option_and_then as_array (get key d)

-- the version of SCRAM by which a mechanism logs in
abbrev pub scram_version_of : AuthMechanism → Option ScramVersion
scram_version_of ScramSha1 = Some Sha1
scram_version_of ScramSha256 = Some Sha256
scram_version_of other = None

-- the mechanism of this name
abbrev pub version_named : List ℕ → Option ScramVersion
version_named name = if bytes_eq name (version_name Sha1) then Some Sha1 else if bytes_eq name (version_name Sha256) then Some Sha256 else None

abbrev pub scram_version_in : Data → Option ScramVersion
scram_version_in d = option_and_then version_named (as_str d)

-- the bytes of a text of hex
abbrev pub salt_in : Data → Option (List ℕ)
salt_in d = option_and_then (λ text. result_ok (decode_of text)) (as_str d)

-- an iteration count, 4096 to 4294967295
abbrev pub count_in : Data → Option ℕ
count_in d = option_and_then (λ n. if nat_le least_count n && nat_le n (2 ^ 32 - 1) then Some n else None) (option_and_then as_u64 (option_and_then as_number (get (codes "count") d)))

-- printable ASCII without a comma
abbrev pub is_printable : ℕ → Bool
is_printable byte = nat_le 0x20 byte && nat_le byte 0x7E && not (byte == 0x2C)

-- what can be put behind a client's nonce: one printable byte or more
abbrev pub is_suffix : List ℕ → Bool
is_suffix [] = false
is_suffix (byte ∷ bytes) = list_all is_printable (byte ∷ bytes)

abbrev pub suffix_in : Data → Option (List ℕ)
suffix_in d = option_and_then (λ nonce. if is_suffix nonce then Some nonce else None) (text_under (codes "nonce") d)

-- ---- users

-- what a text says of a user by one mechanism
pub record AccountValues : Type 0 where
  pub name : List ℕ
  pub password : List ℕ
  pub version : ScramVersion
  pub salt : List ℕ
  pub count : ℕ

-- a user's account by a mechanism, with the salt that stands at the mechanism's place
unfoldable pub account_in : Data → Data → Data → Option AccountValues
account_in user mechanism salt =
    after_part (text_under (codes "name") user) λ name.
    after_part (text_under (codes "password") user) λ password.
    after_part (count_in user) λ count.
    after_part (scram_version_in mechanism) λ version.
    after_part (salt_in salt) λ bytes.
    Some (record { name = name; password = password; version = version; salt = bytes; count = count })

-- a user's accounts by mechanisms, one each, with as many salts
unfoldable pub accounts_by : Data → Items → Items → Option (List AccountValues)
accounts_by user no_items no_items = Some []
accounts_by user no_items (item salt salts) = None
accounts_by user (item mechanism mechanisms) no_items = None
accounts_by user (item mechanism mechanisms) (item salt salts) =
    after_part (account_in user mechanism salt) λ account.
    after_part (accounts_by user mechanisms salts) λ others.
    Some (account ∷ others)

-- a user's accounts, in the order of its mechanisms
unfoldable pub accounts_of_user : Data → Option (List AccountValues)
accounts_of_user user =
    after_part (items_in (codes "mechanisms") user) λ mechanisms.
    after_part (items_in (codes "salts") user) λ salts.
    accounts_by user mechanisms salts

-- the accounts of users, in their order
unfoldable pub accounts_of : Items → Option (List AccountValues)
accounts_of no_items = Some []
accounts_of (item user users) =
    after_part (accounts_of_user user) λ accounts.
    after_part (accounts_of users) λ others.
    Some (accounts ++ others)

-- ---- the settings

pub record ServeSettingsValues : Type 0 where
  pub accounts : List AccountValues
  pub suffix : List ℕ

-- the settings that a value says
unfoldable pub serve_settings_in : Data → Option ServeSettingsValues
serve_settings_in d =
    after_part (suffix_in d) λ suffix.
    after_part (items_in (codes "users") d) λ users.
    after_part (accounts_of users) λ accounts.
    Some (record { accounts = accounts; suffix = suffix })

-- the value of a text of JSON, which is UTF-8
abbrev pub json_in : List ℕ → Option Data
json_in text = if is_utf8 text then read text else None

-- The settings that a text says.
unfoldable pub settings_meant : List ℕ → Option ServeSettingsValues
settings_meant text =
    after_part (json_in text) λ d.
    serve_settings_in d

-- ---- what a reader answers

-- an account and settings, as a text says them
abbrev pub account_values : Account → AccountValues
account_values account = record { name = account.name; password = account.password; version = account.version; salt = account.salt; count = account.count }

abbrev pub settings_values : ServeSettings → ServeSettingsValues
settings_values settings = record { accounts = map account_values settings.accounts; suffix = settings.suffix }

-- accounts that have those that are said at their end
abbrev pub HaveAtEnd : Option (List AccountValues) → List Account → List Account → Type 0
HaveAtEnd None old new = ⊥
HaveAtEnd (Some said) old new = map account_values new ≡ map account_values old ++ said

-- Why it refuses: nothing is said. Want of memory may stand in its place.
abbrev pub HasNoMeaning : {B : Type 0} → ServeSettingsError → Option B → Type 0
HasNoMeaning OutOfMemory said = ⊤
HasNoMeaning BadSettings said = said ≡ None

-- it answers exactly what is said
abbrev pub AnswersMeaning : {A B : Type 0} → (A → B) → Result A ServeSettingsError → Option B → Type 0
AnswersMeaning view (Ok x) said = said ≡ Some (view x)
AnswersMeaning view (Err error) said = HasNoMeaning error said
