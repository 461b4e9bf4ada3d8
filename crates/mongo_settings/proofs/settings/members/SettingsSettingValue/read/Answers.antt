use Rattle.std.proofs.lemmas.Result.{err_from_is_err_and}
use Rattle.mongo_settings.specs.Meaning.{settings_in}
use Rattle.mongo_settings.proofs.Parts.{without_part}
use Rattle.mongo_settings.proofs.settings.members.SettingsSettingValue.read.Goals as goal

pub returns-in_err-iterations : goal.returns-in_err-iterations
unfolding settings_in
returns-in_err-iterations c =
    let p = err_from_is_err_and c.from_residual-in_err-iterations.result c.from_residual-in_err-iterations.ensures.1 in
    rw (p.1, p.2, c.in_ok-nonces.ensures, c.in_ok-first_id.ensures)
    (without_part c.in_err-iterations.field-0.0 _ _ c.in_err-iterations.ensures)
