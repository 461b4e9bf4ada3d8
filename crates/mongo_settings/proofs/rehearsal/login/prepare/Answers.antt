use Rattle.std.proofs.Common.{rules, ◌∙◌, refl, FitsSigned}
use Rattle.std.specs.Int.{w32}
use Rattle.std.proofs.lemmas.Int.{to_z-of_z}
use Rattle.mongo_establish.specs.Options.{options_of_establisher}
use Rattle.mongo_settings.specs.Login.{setup_by}
use Rattle.mongo_settings.proofs.Ready.{setup_for-settings}
use Rattle.mongo_settings.proofs.rehearsal.login.prepare.Goals as goal

pub returns-clause-login : goal.returns-clause-login
unfolding setup_by
returns-clause-login c =
    let settings = c.args.settings in
    let fits : FitsSigned w32 settings.first_id = search rules in
    record {
      setup = setup_for-settings settings (options_of_establisher c.in-Ok.establisher) c.of_nonces.result.nonces c.new.result c.in-Ok.ensures.options c.of_nonces.ensures.nonces (c.new.ensures ∙ to_z-of_z w32 settings.first_id fits);
      credential = refl;
    }
