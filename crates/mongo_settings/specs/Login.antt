-- A login that is ready.
use Rattle.std.specs.Prelude.{◌≡◌}
use Rattle.mongo_establish.specs.Setup.{Setup, setup_for}
use Rattle.mongo_establish.specs.Options.{options_of_establisher}
use Rattle.mongo_settings.specs.declared.settings.Settings.{Settings}
use Rattle.mongo_settings.specs.declared.rehearsal.login.PreparedLogin.{PreparedLogin}
use Rattle.mongo_settings.specs.Outcome.{setup_of}

-- what it asks for
unfoldable pub setup_by : PreparedLogin → Setup
setup_by login = setup_for login.pending (options_of_establisher login.establisher) login.credential login.inputs.nonces login.ids

-- the login asks for what the settings ask for
pub record HasSetupOf (settings : Settings) (login : PreparedLogin) : Type 0 where
  pub setup : setup_by login ≡ setup_of settings
  pub credential : login.credential ≡ settings.credential
