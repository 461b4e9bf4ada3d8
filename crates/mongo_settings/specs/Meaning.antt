-- What the keys of settings mean together.
use Rattle.std.specs.Prelude.{ℤ, pos, Option, Some, unwrap_or, [], replicate}
use Rattle.serde_json.specs.Data.{Data}
use Rattle.mongo_establish.specs.declared.login_state.Nonces.{Nonces}
use Rattle.mongo_establish.specs.Options.{default_max_iterations}
use Rattle.mongo_settings.specs.Keys.{replies_key, credential_key, nonces_key, first_id_key, max_iterations_key}
use Rattle.mongo_settings.specs.Kinds.{◌>>=◌, optional, joined_hex_in, nonces_in, int32_in, iterations_in}
use Rattle.mongo_settings.specs.Credential.{credential_in}
use Rattle.mongo_settings.specs.Options.{client_options_in}
use Rattle.mongo_settings.specs.Pending.{pending_in}
use Rattle.mongo_settings.specs.declared.settings.Settings.{Settings}

-- ---- what holds where a key is absent

abbrev pub default_nonces : Nonces
default_nonces = record { first = replicate 32 0; second = replicate 32 1 }

abbrev pub default_first_id : ℤ
default_first_id = pos 0

-- ----

-- The settings that an object is.
unfoldable pub settings_in : Data → Option Settings
settings_in d = do
  nonces ← optional nonces_key nonces_in d
  first_id ← optional first_id_key int32_in d
  iterations ← optional max_iterations_key iterations_in d
  replies ← optional replies_key joined_hex_in d
  pending ← pending_in d
  credential ← optional credential_key credential_in d
  options ← client_options_in d
  Some (record {
    pending = pending;
    replies = unwrap_or replies [];
    credential = credential;
    nonces = unwrap_or nonces default_nonces;
    first_id = unwrap_or first_id default_first_id;
    options = options;
    max_iterations = unwrap_or iterations default_max_iterations;
  })
