-- Settings: the text of one JSON object, in UTF-8, without a float, whose keys are those of the format.
use Rattle.std.specs.Prelude.{◌≡◌, ℕ, not, Bool, nat_le, if◌then◌else◌, Option, None, Some, Result, Ok, Err, List, length, ⊤}
use Rattle.std.specs.Str.{is_utf8}
use Rattle.serde_json.specs.Data.{Data, Members}
use Rattle.serde_json.specs.Read.{read}
use Rattle.serde_json.specs.Find.{as_object}
use Rattle.serde_json.specs.Written.{has_float}
use Rattle.mongo_sasl.specs.declared.mechanism.AuthMechanism.{AuthMechanism}
use Rattle.mongo_establish.specs.Spoken.{is_spoken}
use Rattle.mongo_settings.specs.Keys.{is_known, is_built as is_built_key}
use Rattle.mongo_settings.specs.Kinds.{each_key}
use Rattle.mongo_settings.specs.Credential.{named_mechanism}
use Rattle.mongo_settings.specs.Meaning.{settings_in}
use Rattle.mongo_settings.specs.declared.settings.Settings.{Settings}
use Rattle.mongo_settings.specs.declared.settings.SettingsError.{SettingsError}
use Rattle.mongo_settings.specs.declared.settings.SettingsError.TheVariants.{BadSettings, NotBuilt, OutOfMemory}

-- the greatest length of a text of settings, in bytes
abbrev pub maximum_settings_length : ℕ
maximum_settings_length = 4194304

-- one step after another: the first refusal is the answer
abbrev pub unless_refused : {A B : Type 0} → Result A SettingsError → (A → Result B SettingsError) → Result B SettingsError
unless_refused (Ok x) f = f x
unless_refused (Err e) f = Err e

-- a rule of settings, and a value that a rule of settings asks for
abbrev pub holds_or_bad : Bool → Result ⊤ SettingsError
holds_or_bad holds = if holds then Ok tt else Err BadSettings

abbrev pub needed : {A : Type 0} → Option A → Result A SettingsError
needed None = Err BadSettings
needed (Some x) = Ok x

-- the value of a text of JSON, which is UTF-8
unfoldable pub json_of : List ℕ → Result Data SettingsError
json_of text = if is_utf8 text then needed (read text) else Err BadSettings

-- Keys of the format alone; one that isn't read yet is found after an unknown one.
abbrev pub members_judged : Members → Result ⊤ SettingsError
members_judged members =
    if each_key is_known members then (if each_key is_built_key members then Ok tt else Err NotBuilt) else Err BadSettings

unfoldable pub keys_judged : Data → Result ⊤ SettingsError
keys_judged d =
    unless_refused (needed (as_object d)) λ members.
    members_judged members

-- a login by the mechanism is built, or there is none
abbrev pub mechanism_judged : Option AuthMechanism → Result ⊤ SettingsError
mechanism_judged None = Ok tt
mechanism_judged (Some mechanism) = if is_spoken mechanism then Ok tt else Err NotBuilt

-- The settings that a value is. What isn't built yet is found before a value of another kind.
unfoldable pub settings_of : Data → Result Settings SettingsError
settings_of d =
    unless_refused (keys_judged d) λ keys.
    unless_refused (mechanism_judged (named_mechanism d)) λ login.
    needed (settings_in d)

-- The value of a text that isn't too long and holds no float.
unfoldable pub value_judged : List ℕ → Result Data SettingsError
value_judged text =
    unless_refused (holds_or_bad (nat_le (length text) maximum_settings_length)) λ short.
    unless_refused (json_of text) λ d.
    unless_refused (holds_or_bad (not (has_float d))) λ whole.
    Ok d

-- The settings that a text is, or why it is none, judged in this order.
unfoldable pub judged : List ℕ → Result Settings SettingsError
judged text =
    unless_refused (value_judged text) λ d.
    settings_of d

-- What is answered is what is judged. Want of memory may stand in its place.
abbrev pub Refuses : {B : Type 0} → SettingsError → Result B SettingsError → Type 0
Refuses OutOfMemory judgement = ⊤
Refuses BadSettings judgement = judgement ≡ Err BadSettings
Refuses NotBuilt judgement = judgement ≡ Err NotBuilt

abbrev pub Gives : {A B : Type 0} → (A → B) → Result A SettingsError → Result B SettingsError → Type 0
Gives view (Ok x) judgement = judgement ≡ Ok (view x)
Gives view (Err e) judgement = Refuses e judgement
