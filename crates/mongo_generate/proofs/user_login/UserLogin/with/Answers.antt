use Rattle.std.proofs.Common.{rules, Some, IsTrue, refl, sym, subst}
use Rattle.mongo_sasl.specs.declared.credential.Credential.{Credential}
use Rattle.mongo_scram.specs.Commands.{mechanism_of, is_scram}
use Rattle.mongo_scram.specs.declared.scram_version.ScramVersion.{ScramVersion}
use Rattle.mongo_scram.specs.declared.scram_version.ScramVersion.TheVariants.{Sha1, Sha256}
use Rattle.mongo_generate.proofs.user_login.UserLogin.with.Goals as goal

scram_mechanism : (version : ScramVersion) → IsTrue (is_scram (Some (mechanism_of version)))
scram_mechanism Sha1 = refl
scram_mechanism Sha256 = refl

pub invariant_of-result : goal.invariant_of-result
invariant_of-result c = record {
  scram =
      subst (λ (credential : Credential). IsTrue (is_scram credential.mechanism)) (sym c.mechanism-credential.ensures)
      (subst (λ mechanism. IsTrue (is_scram (Some mechanism))) (sym c.mechanism.ensures) (scram_mechanism c.args.version));
  admin = search rules;
}
