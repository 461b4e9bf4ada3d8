-- The metadata of a client's options, and of the libraries that add themselves.
use Rattle.std.specs.Prelude.{◌≡◌, ℕ, ◌⊎◌, false, Option, None, Some, option_map, List, [], ◌∷◌, ◌++◌, codes, Contains}
use Rattle.mongo_meta.specs.declared.client_metadata.AppMetadata.{AppMetadata}
use Rattle.mongo_meta.specs.declared.client_metadata.ClientMetadata.{ClientMetadata}
use Rattle.mongo_meta.specs.declared.client_metadata.DriverMetadata.{DriverMetadata}
use Rattle.mongo_meta.specs.declared.client_options.ClientOptions.{ClientOptions}
use Rattle.mongo_meta.specs.declared.driver_info.DriverInfo.{DriverInfo}
use Rattle.mongo_meta.specs.declared.os_metadata.OsMetadata.{OsMetadata}
use Rattle.mongo_meta.specs.Providers.{runtime_environment_in}

-- ---- a client of which nothing is said

abbrev pub default_os : OsMetadata
default_os = record { os_type = codes "linux"; name = None; architecture = Some (codes "x86_64"); version = None }

abbrev pub default_platform : List ℕ
default_platform = codes "rattle / sync"

abbrev pub default_platform_short : List ℕ
default_platform_short = codes "rattle"

abbrev pub default_options : ClientOptions
default_options = record {
  app_name = None;
  driver_info = None;
  server_api = None;
  load_balanced = false;
  os = default_os;
  platform = default_platform;
  platform_short = default_platform_short;
  environment = record { variables = []; dockerenv = false };
}

-- ---- libraries

abbrev pub bar : List ℕ
bar = codes "|"

-- a text, a bar and what was added, where that is there and not empty
abbrev pub with_part : List ℕ → Option (List ℕ) → List ℕ
with_part text None = text
with_part text (Some []) = text
with_part text (Some (b ∷ bs)) = text ++ (bar ++ b ∷ bs)

-- a library's name, and its version and platform where they are there, each behind a bar
abbrev pub with_library : ClientMetadata → DriverInfo → ClientMetadata
with_library m info = record m {
  driver = record { name = m.driver.name ++ (bar ++ info.name); version = with_part m.driver.version info.version };
  platform = with_part m.platform info.platform;
  appended = m.appended ++ info ∷ [];
}

-- a library that added itself before adds nothing more
abbrev pub Appends : ClientMetadata → DriverInfo → ClientMetadata → Type 0
Appends old info new = (Contains old.appended info × (new ≡ old)) ⊎ ((Contains old.appended info → ⊥) × (new ≡ with_library old info))

abbrev pub named : List ℕ → AppMetadata
named name = record { name = name }

-- the driver, with no library behind it
abbrev pub this_driver : DriverMetadata
this_driver = record { name = codes "mongo-rust-driver"; version = codes "3.9.1" }

-- the metadata of the client alone
abbrev pub client_metadata_of : ClientOptions → ClientMetadata
client_metadata_of o = record {
  application = option_map named o.app_name;
  driver = this_driver;
  os = o.os;
  platform = o.platform;
  platform_short = o.platform_short;
  env = runtime_environment_in o.environment;
  appended = [];
}

abbrev pub with_given_library : ClientMetadata → Option DriverInfo → ClientMetadata
with_given_library m None = m
with_given_library m (Some info) = with_library m info

-- the client's, and the library's that its options name
unfoldable pub metadata_of : ClientOptions → ClientMetadata
metadata_of o = with_given_library (client_metadata_of o) o.driver_info
