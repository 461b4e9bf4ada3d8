-- A login that is made ready of settings asks for what they ask for.
use Rattle.std.proofs.Common.{◌≡◌, ℤ, ◌∙◌, ap}
use Rattle.mongo_establish.specs.declared.login_state.Nonces.{Nonces}
use Rattle.mongo_establish.specs.declared.options.HandshakerOptions.{HandshakerOptions}
use Rattle.mongo_establish.specs.Setup.{setup_for}
use Rattle.mongo_establish.specs.Options.{options_of}
use Rattle.mongo_settings.specs.declared.settings.Settings.{Settings}
use Rattle.mongo_settings.specs.Outcome.{spec_of, setup_of}

pub setup_for-settings : (settings : Settings) (options : HandshakerOptions) (nonces : Nonces) (id : ℤ)
    → options ≡ options_of (spec_of settings) → nonces ≡ settings.nonces → id ≡ settings.first_id → setup_for settings.pending options settings.credential nonces id ≡ setup_of settings
unfolding setup_of
setup_for-settings settings options nonces id o n i =
    ap (λ x. setup_for settings.pending x settings.credential nonces id) o
    ∙ ap (λ x. setup_for settings.pending (options_of (spec_of settings)) settings.credential x id) n
    ∙ ap (λ x. setup_for settings.pending (options_of (spec_of settings)) settings.credential settings.nonces x) i
