use Rattle.std.proofs.Common.{subst}
use Rattle.mongo_scram.specs.SigningKey.{IsKeyOf}
use Rattle.mongo_scram.proofs.Signed.{sha1_mac, sha256_mac}
use Rattle.mongo_scram.proofs.signing_key.SigningKey.mac.Goals as goal

pub returns-in-Sha1-clause-value : goal.returns-in-Sha1-clause-value
returns-in-Sha1-clause-value c = λ version key is.
    sha1_mac version key c.args.text.now c.mac.result c.in-Sha1.key (subst (IsKeyOf version key) c.in-Sha1.is is) c.mac.ensures.value

pub returns-in-Sha256-clause-value : goal.returns-in-Sha256-clause-value
returns-in-Sha256-clause-value c = λ version key is.
    sha256_mac version key c.args.text.now c.mac-in-Sha256.result c.in-Sha256.key (subst (IsKeyOf version key) c.in-Sha256.is is) c.mac-in-Sha256.ensures.value
