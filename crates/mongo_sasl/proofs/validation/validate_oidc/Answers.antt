use Rattle.std.proofs.Common.{sym, subst}
use Rattle.mongo_bson.specs.Document.{IsDocument}
use Rattle.mongo_sasl.specs.Rules.{properties_of}
use Rattle.mongo_sasl.specs.Validation.{oidc_rules}
use Rattle.mongo_sasl.proofs.Judged.{properties_judged_by}
use Rattle.mongo_sasl.proofs.validation.validate_oidc.Goals as goal

pub returns : goal.returns
returns c =
    properties_judged_by (properties_of c.args.credential.now) (oidc_rules c.args.credential.now c.args.callback_given) c.judge_oidc.result c.in_ok-properties.ensures.readable
    (λ elements is. c.judge_oidc.ensures elements (subst (λ b. IsDocument b elements) (sym c.in_ok-properties.ensures.properties) is))
