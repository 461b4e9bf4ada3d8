-- What is known of a value that is settings.
use Rattle.std.proofs.Common.{◌≡◌, Option, Some, Result, Ok, refl}
use Rattle.std.specs.Prelude.{⊤}
use Rattle.serde_json.specs.Data.{Data}
use Rattle.mongo_settings.specs.Credential.{named_mechanism}
use Rattle.mongo_settings.specs.Meaning.{settings_in}
use Rattle.mongo_settings.specs.Settings.{unless_refused, needed, keys_judged, mechanism_judged, settings_of}
use Rattle.mongo_settings.specs.declared.settings.Settings.{Settings}
use Rattle.mongo_settings.specs.declared.settings.SettingsError.{SettingsError}

-- the steps of a judgement, each of which passed
passed : (keys login : Result ⊤ SettingsError) (found : Option Settings) (s : Settings) → (unless_refused keys (λ k. unless_refused login (λ l. needed found))) ≡ Ok s → (login ≡ Ok tt) × (found ≡ Some s)
passed (Ok k) (Ok l) (Some settings) s is = (refl, cc)
passed keys login found s is = cc

pub settings_of-ok : (d : Data) (s : Settings) → settings_of d ≡ Ok s → (mechanism_judged (named_mechanism d) ≡ Ok tt) × (settings_in d ≡ Some s)
unfolding settings_of
settings_of-ok d s is = passed (keys_judged d) (mechanism_judged (named_mechanism d)) (settings_in d) s is
