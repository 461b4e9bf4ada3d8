-- The documents of a client's metadata, by the handshake specification. Each holds those of its fields that are there.
use Rattle.std.specs.Prelude.{ℕ, Option, Some, option_map, List, [], ◌∷◌, codes, flat_map}
use Rattle.mongo_bson.specs.Document.{Element}
use Rattle.mongo_command.specs.Literal.{text_element, int32_element, document_element, document_of}
use Rattle.mongo_command.specs.Command.{present}
use Rattle.mongo_meta.specs.declared.client_metadata.AppMetadata.{AppMetadata}
use Rattle.mongo_meta.specs.declared.client_metadata.DriverMetadata.{DriverMetadata}
use Rattle.mongo_meta.specs.declared.client_metadata.ClientMetadata.{ClientMetadata}
use Rattle.mongo_meta.specs.declared.os_metadata.OsMetadata.{OsMetadata}
use Rattle.mongo_meta.specs.declared.runtime_environment.RuntimeEnvironment.{RuntimeEnvironment}
use Rattle.mongo_meta.specs.Keys.{application_key, driver_key, os_key, platform_key, env_key, name_key, version_key, type_key, runtime_key}
use Rattle.mongo_meta.specs.Providers.{name_text}

-- the document of the fields that are there
abbrev pub document_of_given : List (List Element) → List ℕ
document_of_given fields = document_of (flat_map (λ es. es) fields)

abbrev pub application_document : AppMetadata → List ℕ
application_document application = document_of_given (
    present (text_element name_key) (Some application.name)
    ∷ [])

abbrev pub driver_document : DriverMetadata → List ℕ
driver_document driver = document_of_given (
    present (text_element name_key) (Some driver.name)
    ∷ present (text_element version_key) (Some driver.version)
    ∷ [])

abbrev pub os_document : OsMetadata → List ℕ
os_document os = document_of_given (
    present (text_element type_key) (Some os.os_type)
    ∷ present (text_element name_key) os.name
    ∷ present (text_element (codes "architecture")) os.architecture
    ∷ present (text_element version_key) os.version
    ∷ [])

abbrev pub environment_document : RuntimeEnvironment → List ℕ
environment_document env = document_of_given (
    present (text_element name_key) (option_map name_text env.name)
    ∷ present (text_element runtime_key) env.runtime
    ∷ present (int32_element (codes "timeout_sec")) env.timeout_sec
    ∷ present (int32_element (codes "memory_mb")) env.memory_mb
    ∷ present (text_element (codes "region")) env.region
    ∷ present (document_element (codes "container")) env.container
    ∷ [])

-- by the documents of its parts
abbrev pub document_of_parts : Option (List ℕ) → List ℕ → List ℕ → List ℕ → Option (List ℕ) → List ℕ
document_of_parts application driver os platform env = document_of_given (
    present (document_element application_key) application
    ∷ present (document_element driver_key) (Some driver)
    ∷ present (document_element os_key) (Some os)
    ∷ present (text_element platform_key) (Some platform)
    ∷ present (document_element env_key) env
    ∷ [])

abbrev pub metadata_document : ClientMetadata → List ℕ
metadata_document m = document_of_parts (option_map application_document m.application) (driver_document m.driver) (os_document m.os) m.platform (option_map environment_document m.env)
