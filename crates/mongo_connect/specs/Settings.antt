-- The settings of a connection: those of a rehearsal that bring no reply bytes; these come from its link.
use Rattle.std.specs.Prelude.{ℕ, ◌==◌, if◌then◌else◌, Result, Ok, Err, List, length}
use Rattle.mongo_settings.specs.declared.settings.Settings.{Settings}
use Rattle.mongo_settings.specs.declared.settings.SettingsError.{SettingsError}
use Rattle.mongo_settings.specs.declared.settings.SettingsError.TheVariants.{BadSettings}
use Rattle.mongo_settings.specs.Settings.{unless_refused, judged}

abbrev pub unreplied : Settings → Result Settings SettingsError
unreplied settings = if length settings.replies == 0 then Ok settings else Err BadSettings

-- the settings that a line is, or why it is none
unfoldable pub line_judged : List ℕ → Result Settings SettingsError
line_judged line = unless_refused (judged line) unreplied

-- the settings of a rehearsal over these reply bytes
abbrev pub with_replies : Settings → List ℕ → Settings
with_replies settings bytes = record settings { replies = bytes }
