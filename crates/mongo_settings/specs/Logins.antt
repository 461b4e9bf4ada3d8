-- The logins of a batch: the text of one JSON object whose one key is `logins`, an array of settings.
use Rattle.std.specs.Prelude.{ℕ, Result, Ok, List, [], ◌∷◌}
use Rattle.serde_json.specs.Data.{Data, Items, no_items, item}
use Rattle.serde_json.specs.Find.{as_array}
use Rattle.mongo_settings.specs.Keys.{batch_keys, logins_key}
use Rattle.mongo_settings.specs.Kinds.{object_of, required}
use Rattle.mongo_settings.specs.Settings.{unless_refused, needed, value_judged, settings_of}
use Rattle.mongo_settings.specs.declared.settings.Settings.{Settings}
use Rattle.mongo_settings.specs.declared.settings.SettingsError.{SettingsError}

-- the settings that the values are, judged one after another
unfoldable pub each_settings : Items → Result (List Settings) SettingsError
each_settings no_items = Ok []
each_settings (item d others) =
    unless_refused (settings_of d) λ settings.
    unless_refused (each_settings others) λ more.
    Ok (settings ∷ more)

-- the logins that a value has
unfoldable pub logins_of : Data → Result (List Settings) SettingsError
logins_of d =
    unless_refused (needed (object_of batch_keys d)) λ keys.
    unless_refused (needed (required logins_key as_array d)) λ values.
    each_settings values

-- The logins that a text has, or why it has none, judged in this order.
unfoldable pub logins_judged : List ℕ → Result (List Settings) SettingsError
logins_judged text =
    unless_refused (value_judged text) λ d.
    logins_of d
