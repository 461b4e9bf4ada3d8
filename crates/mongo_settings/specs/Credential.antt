-- Credentials as settings have them.
use Rattle.std.specs.Prelude.{ℕ, Option, Some, option_and_then, List, [], ◌∷◌, bytes_eq}
use Rattle.std.specs.List.{find}
use Rattle.serde_json.specs.Data.{Data}
use Rattle.serde_json.specs.Find.{get, as_str}
use Rattle.mongo_sasl.specs.declared.credential.Credential.{Credential}
use Rattle.mongo_sasl.specs.declared.mechanism.AuthMechanism.{AuthMechanism}
use Rattle.mongo_sasl.specs.declared.mechanism.AuthMechanism.TheVariants.{MongoDbCr, ScramSha1, ScramSha256, MongoDbX509, Plain, MongoDbAws, MongoDbOidc}
use Rattle.mongo_sasl.specs.Mechanism.{name_of}
use Rattle.mongo_settings.specs.Keys.{credential_keys, credential_key, username_setting_key, source_key, password_key, credential_mechanism_key, properties_key}
use Rattle.mongo_settings.specs.Kinds.{◌>>=◌, optional, object_of}
use Rattle.mongo_settings.specs.Properties.{properties_in}

abbrev pub mechanisms : List AuthMechanism
mechanisms = MongoDbCr ∷ ScramSha1 ∷ ScramSha256 ∷ MongoDbX509 ∷ Plain ∷ MongoDbAws ∷ MongoDbOidc ∷ []

-- the mechanism that a text is the name of
unfoldable pub mechanism_named : List ℕ → Option AuthMechanism
mechanism_named text = find (λ mechanism. bytes_eq text (name_of mechanism)) mechanisms

abbrev pub mechanism_in : Data → Option AuthMechanism
mechanism_in d = option_and_then mechanism_named (as_str d)

-- the mechanism that the credential of an object names
abbrev pub named_mechanism : Data → Option AuthMechanism
named_mechanism d = do
  credential ← get credential_key d
  name ← get credential_mechanism_key credential
  mechanism_in name

unfoldable pub credential_in : Data → Option Credential
credential_in d = do
  object ← object_of credential_keys d
  username ← optional username_setting_key as_str d
  source ← optional source_key as_str d
  password ← optional password_key as_str d
  mechanism ← optional credential_mechanism_key mechanism_in d
  properties ← optional properties_key properties_in d
  Some (record { username = username; source = source; password = password; mechanism = mechanism; mechanism_properties = properties })
