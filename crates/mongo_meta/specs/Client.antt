-- The metadata that a hello carries: the first of five forms that fits, which leave out what the handshake specification names, in
-- its order.
use Rattle.std.specs.Prelude.{ℕ, ◌+◌, nat_le, Bool, Option, None, option_map, List, [], ◌∷◌, length, map, unwrap_or}
use Rattle.std.specs.List.{find}
use Rattle.mongo_meta.specs.declared.client_metadata.ClientMetadata.{ClientMetadata}
use Rattle.mongo_meta.specs.declared.form.Form.{Form}
use Rattle.mongo_meta.specs.declared.form.Form.TheVariants.{Whole, EnvironmentName, OsType, NoEnvironment, ShortPlatform}
use Rattle.mongo_meta.specs.declared.os_metadata.OsMetadata.{OsMetadata}
use Rattle.mongo_meta.specs.declared.runtime_environment.RuntimeEnvironment.{RuntimeEnvironment}
use Rattle.mongo_meta.specs.Providers.{unset}
use Rattle.mongo_meta.specs.Metadata.{metadata_document}

-- ---- the forms, each on top of the one before it

abbrev pub name_alone : RuntimeEnvironment → RuntimeEnvironment
name_alone env = record unset { name = env.name }

abbrev pub type_alone : OsMetadata → OsMetadata
type_alone os = record { os_type = os.os_type; name = None; architecture = None; version = None }

-- `env` keeps its name alone; it stays where it was there, even if it is empty then
abbrev pub with_environment_name : ClientMetadata → ClientMetadata
with_environment_name m = record m { env = option_map name_alone m.env }

-- `os` keeps its type alone
abbrev pub with_os_type : ClientMetadata → ClientMetadata
with_os_type m = record (with_environment_name m) { os = type_alone m.os }

-- there is no `env`
abbrev pub without_environment : ClientMetadata → ClientMetadata
without_environment m = record (with_os_type m) { env = None }

-- `platform` is the short text
abbrev pub with_short_platform : ClientMetadata → ClientMetadata
with_short_platform m = record (without_environment m) { platform = m.platform_short }

-- ---- the form that is sent

-- the maximum of a hello's body, the key and the metadata together, in bytes
abbrev pub maximum_hello_length : ℕ
maximum_hello_length = 512

-- the body, the kind byte, `client` and its zero, and the document are within it together
abbrev pub fits : ℕ → List ℕ → Bool
fits body document = nat_le (body + 8 + length document) maximum_hello_length

abbrev pub forms : ClientMetadata → List ClientMetadata
forms m = m ∷ with_environment_name m ∷ with_os_type m ∷ without_environment m ∷ with_short_platform m ∷ []

-- the document in a hello whose body has so many bytes before it: of the first form that fits, or else of the last
unfoldable pub client_of : ClientMetadata → ℕ → List ℕ
client_of m body = unwrap_or (find (fits body) (map metadata_document (forms m))) (metadata_document (with_short_platform m))

-- ---- the same over some of the forms, as they are tried

abbrev pub in_form : Form → ClientMetadata → ClientMetadata
in_form Whole m = m
in_form EnvironmentName m = with_environment_name m
in_form OsType m = with_os_type m
in_form NoEnvironment m = without_environment m
in_form ShortPlatform m = with_short_platform m

-- the first of some forms that fits
abbrev pub fitting : ClientMetadata → ℕ → List Form → Option (List ℕ)
fitting m body forms = find (fits body) (map (λ form. metadata_document (in_form form m)) forms)
