-- The keys of settings and of the objects in them: those of the format, and whether one of settings is read yet.
use Rattle.std.specs.Prelude.{ℕ, Bool, true, false, Option, None, Some, is_some, if◌then◌else◌, List, [], ◌∷◌, codes, bytes_eq}
use Rattle.mongo_settings.specs.declared.settings.keys.Support.{Support}
use Rattle.mongo_settings.specs.declared.settings.keys.Support.TheVariants.{Built, Later}

-- ---- keys of settings

abbrev pub host_key : List ℕ
host_key = codes "host"

abbrev pub replies_key : List ℕ
replies_key = codes "replies"

abbrev pub port_key : List ℕ
port_key = codes "port"

abbrev pub unix_key : List ℕ
unix_key = codes "unix"

abbrev pub pool_id_key : List ℕ
pool_id_key = codes "id"

abbrev pub generation_key : List ℕ
generation_key = codes "generation"

abbrev pub load_balanced_key : List ℕ
load_balanced_key = codes "load_balanced"

abbrev pub generations_key : List ℕ
generations_key = codes "generations"

abbrev pub app_name_key : List ℕ
app_name_key = codes "app_name"

abbrev pub driver_info_key : List ℕ
driver_info_key = codes "driver_info"

abbrev pub server_api_key : List ℕ
server_api_key = codes "server_api"

abbrev pub os_setting_key : List ℕ
os_setting_key = codes "os"

abbrev pub platform_setting_key : List ℕ
platform_setting_key = codes "platform"

abbrev pub platform_short_key : List ℕ
platform_short_key = codes "platform_short"

abbrev pub environment_key : List ℕ
environment_key = codes "environment"

abbrev pub dockerenv_key : List ℕ
dockerenv_key = codes "dockerenv"

abbrev pub credential_key : List ℕ
credential_key = codes "credential"

abbrev pub nonces_key : List ℕ
nonces_key = codes "nonces"

abbrev pub moment_key : List ℕ
moment_key = codes "moment"

abbrev pub first_id_key : List ℕ
first_id_key = codes "first_id"

abbrev pub max_iterations_key : List ℕ
max_iterations_key = codes "max_iterations"

abbrev pub callback_key : List ℕ
callback_key = codes "callback"

abbrev pub tokens_key : List ℕ
tokens_key = codes "tokens"

abbrev pub aws_key : List ℕ
aws_key = codes "aws"

pub record Key : Type 0 where
  pub name : List ℕ
  pub support : Support

abbrev pub key_row : List ℕ → Support → Key
key_row name support = record { name = name; support = support }

abbrev pub built : List ℕ → Key
built name = key_row name Built

abbrev pub read_later : List ℕ → Key
read_later name = key_row name Later

-- the format's keys
abbrev pub keys : List Key
keys =
    built host_key ∷ built replies_key ∷ built port_key ∷ built unix_key ∷ built pool_id_key ∷ built generation_key
    ∷ built load_balanced_key ∷ built generations_key ∷ built app_name_key ∷ built driver_info_key ∷ built server_api_key ∷ built os_setting_key
    ∷ built platform_setting_key ∷ built platform_short_key ∷ built environment_key ∷ built dockerenv_key ∷ built credential_key ∷ built nonces_key
    ∷ read_later moment_key ∷ built first_id_key ∷ built max_iterations_key ∷ read_later callback_key ∷ read_later tokens_key ∷ read_later aws_key ∷ []

-- whether a key of these names is read; none where it isn't among them
unfoldable pub support_in : List Key → List ℕ → Option Support
support_in [] name = None
support_in (key ∷ others) name = if bytes_eq key.name name then Some key.support else support_in others name

abbrev pub support_of : List ℕ → Option Support
support_of name = support_in keys name

abbrev pub is_known : List ℕ → Bool
is_known name = is_some (support_of name)

abbrev pub is_read_yet : Option Support → Bool
is_read_yet None = false
is_read_yet (Some Later) = false
is_read_yet (Some Built) = true

abbrev pub is_built : List ℕ → Bool
is_built name = is_read_yet (support_of name)

-- ---- the key of a batch

abbrev pub logins_key : List ℕ
logins_key = codes "logins"

abbrev pub batch_keys : List (List ℕ)
batch_keys = logins_key ∷ []

-- ---- keys of `credential`

abbrev pub username_setting_key : List ℕ
username_setting_key = codes "username"

abbrev pub source_key : List ℕ
source_key = codes "source"

abbrev pub password_key : List ℕ
password_key = codes "password"

abbrev pub credential_mechanism_key : List ℕ
credential_mechanism_key = codes "mechanism"

abbrev pub properties_key : List ℕ
properties_key = codes "properties"

abbrev pub credential_keys : List (List ℕ)
credential_keys = username_setting_key ∷ source_key ∷ password_key ∷ credential_mechanism_key ∷ properties_key ∷ []

-- ---- keys of `driver_info`, `os` and `server_api`, of which `platform` is one of settings too

abbrev pub name_setting_key : List ℕ
name_setting_key = codes "name"

abbrev pub version_setting_key : List ℕ
version_setting_key = codes "version"

abbrev pub type_setting_key : List ℕ
type_setting_key = codes "type"

abbrev pub architecture_key : List ℕ
architecture_key = codes "architecture"

abbrev pub strict_key : List ℕ
strict_key = codes "strict"

abbrev pub deprecation_errors_key : List ℕ
deprecation_errors_key = codes "deprecation_errors"

abbrev pub driver_info_keys : List (List ℕ)
driver_info_keys = name_setting_key ∷ version_setting_key ∷ platform_setting_key ∷ []

abbrev pub os_keys : List (List ℕ)
os_keys = type_setting_key ∷ name_setting_key ∷ architecture_key ∷ version_setting_key ∷ []

abbrev pub server_api_keys : List (List ℕ)
server_api_keys = version_setting_key ∷ strict_key ∷ deprecation_errors_key ∷ []
