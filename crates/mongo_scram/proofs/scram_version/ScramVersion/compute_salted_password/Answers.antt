use Rattle.std.proofs.Common.{subst}
use Rattle.mongo_scram.specs.Key.{PasswordRow}
use Rattle.mongo_scram.proofs.scram_version.ScramVersion.compute_salted_password.Goals as goal

pub returns-in_ok-check_password-in-Sha256-clause-usable : goal.returns-in_ok-check_password-in-Sha256-clause-usable
returns-in_ok-check_password-in-Sha256-clause-usable g c = λ kind row.
    c.in_ok-check_password-in-Sha256.ensures.usable kind (subst (λ version. PasswordRow version c.args.password.now kind) c.in-Sha256.is row)
