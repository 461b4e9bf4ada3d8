-- Keys that stand in more than one document of a client's metadata, or in a document and in a lemma, as the handshake
-- specification spells them.
use Rattle.std.specs.Prelude.{ℕ, List, codes}

abbrev pub application_key : List ℕ
application_key = codes "application"

abbrev pub driver_key : List ℕ
driver_key = codes "driver"

abbrev pub os_key : List ℕ
os_key = codes "os"

abbrev pub platform_key : List ℕ
platform_key = codes "platform"

abbrev pub env_key : List ℕ
env_key = codes "env"

abbrev pub name_key : List ℕ
name_key = codes "name"

abbrev pub version_key : List ℕ
version_key = codes "version"

abbrev pub type_key : List ℕ
type_key = codes "type"

abbrev pub runtime_key : List ℕ
runtime_key = codes "runtime"
