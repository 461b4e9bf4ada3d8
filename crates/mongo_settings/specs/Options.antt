-- What settings say of the client: its options.
use Rattle.std.specs.Prelude.{ℕ, Bool, false, if◌then◌else◌, Option, None, Some, option_and_then, unwrap_or, List, [], ◌∷◌, codes, bytes_eq}
use Rattle.serde_json.specs.Data.{Data, Items, no_items, item}
use Rattle.serde_json.specs.Find.{as_str, as_bool, as_array}
use Rattle.mongo_command.specs.Command.{version_text}
use Rattle.mongo_command.specs.declared.server_api.ServerApi.{ServerApi}
use Rattle.mongo_command.specs.declared.server_api.ServerApiVersion.{ServerApiVersion}
use Rattle.mongo_command.specs.declared.server_api.ServerApiVersion.TheVariants.{V1}
use Rattle.mongo_meta.specs.Options.{default_os, default_platform, default_platform_short}
use Rattle.mongo_meta.specs.declared.client_options.ClientOptions.{ClientOptions}
use Rattle.mongo_meta.specs.declared.driver_info.DriverInfo.{DriverInfo}
use Rattle.mongo_meta.specs.declared.environment.Environment.{Environment}
use Rattle.mongo_meta.specs.declared.environment.Variable.{Variable}
use Rattle.mongo_meta.specs.declared.os_metadata.OsMetadata.{OsMetadata}
use Rattle.mongo_settings.specs.Keys.{driver_info_keys, os_keys, server_api_keys, load_balanced_key, app_name_key, driver_info_key, server_api_key, os_setting_key, platform_setting_key, platform_short_key, environment_key, dockerenv_key, name_setting_key, version_setting_key, type_setting_key, architecture_key, strict_key, deprecation_errors_key}
use Rattle.mongo_settings.specs.Kinds.{◌>>=◌, optional, required, or_absent, object_of, two_in}

-- ---- the values of keys

unfoldable pub driver_info_in : Data → Option DriverInfo
driver_info_in d = do
  object ← object_of driver_info_keys d
  name ← required name_setting_key as_str d
  version ← optional version_setting_key as_str d
  platform ← optional platform_setting_key as_str d
  Some (record { name = name; version = version; platform = platform })

unfoldable pub os_in : Data → Option OsMetadata
os_in d = do
  object ← object_of os_keys d
  os_type ← required type_setting_key as_str d
  name ← optional name_setting_key as_str d
  architecture ← optional architecture_key as_str d
  version ← optional version_setting_key as_str d
  Some (record { os_type = os_type; name = name; architecture = architecture; version = version })

-- the one version that there is
abbrev pub version_in : Data → Option ServerApiVersion
version_in d = option_and_then (λ text. if bytes_eq text (version_text V1) then Some V1 else None) (as_str d)

unfoldable pub server_api_in : Data → Option ServerApi
server_api_in d = do
  object ← object_of server_api_keys d
  version ← required version_setting_key version_in d
  strict ← optional strict_key as_bool d
  deprecation_errors ← optional deprecation_errors_key as_bool d
  Some (record { version = version; strict = strict; deprecation_errors = deprecation_errors })

-- a variable: its name and its value
abbrev pub variable_in : Data → Option Variable
variable_in d = do
  two ← two_in d
  name ← as_str two.0
  value ← as_str two.1
  Some (record { name = name; value = value })

unfoldable pub variables_of : Items → Option (List Variable)
variables_of no_items = Some []
variables_of (item d others) = do
  variable ← variable_in d
  variables ← variables_of others
  Some (variable ∷ variables)

abbrev pub variables_in : Data → Option (List Variable)
variables_in d = option_and_then variables_of (as_array d)

-- ---- the keys together

-- whether the server is behind a load balancer: not where the key is absent
abbrev pub load_balanced_in : Data → Option Bool
load_balanced_in d = or_absent false (optional load_balanced_key as_bool d)

unfoldable pub environment_in : Data → Option Environment
environment_in d = do
  variables ← optional environment_key variables_in d
  dockerenv ← optional dockerenv_key as_bool d
  Some (record { variables = unwrap_or variables []; dockerenv = unwrap_or dockerenv false })

unfoldable pub client_options_in : Data → Option ClientOptions
client_options_in d = do
  server_api ← optional server_api_key server_api_in d
  load_balanced ← load_balanced_in d
  platform ← or_absent default_platform (optional platform_setting_key as_str d)
  platform_short ← or_absent default_platform_short (optional platform_short_key as_str d)
  environment ← environment_in d
  app_name ← optional app_name_key as_str d
  driver_info ← optional driver_info_key driver_info_in d
  os ← or_absent default_os (optional os_setting_key os_in d)
  Some (record {
    app_name = app_name;
    driver_info = driver_info;
    server_api = server_api;
    load_balanced = load_balanced;
    os = os;
    platform = platform;
    platform_short = platform_short;
    environment = environment;
  })
