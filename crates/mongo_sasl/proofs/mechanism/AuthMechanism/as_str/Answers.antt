use Rattle.std.proofs.Common.{Ok, sym, ap, ◌∙◌}
use Rattle.mongo_sasl.specs.declared.mechanism.AuthMechanism.TheVariants.{MongoDbCr, ScramSha1, ScramSha256, MongoDbX509, Plain, MongoDbAws, MongoDbOidc}
use Rattle.mongo_sasl.proofs.MechanismNames.{again}
use Rattle.mongo_sasl.proofs.mechanism.AuthMechanism.as_str.Goals as goal

pub returns-in-MongoDbCr-clause-again : goal.returns-in-MongoDbCr-clause-again
returns-in-MongoDbCr-clause-again c = λ read names. again MongoDbCr read names ∙ ap Ok (sym c.in-MongoDbCr.is)

pub returns-in-ScramSha1-clause-again : goal.returns-in-ScramSha1-clause-again
returns-in-ScramSha1-clause-again c = λ read names. again ScramSha1 read names ∙ ap Ok (sym c.in-ScramSha1.is)

pub returns-in-ScramSha256-clause-again : goal.returns-in-ScramSha256-clause-again
returns-in-ScramSha256-clause-again c = λ read names. again ScramSha256 read names ∙ ap Ok (sym c.in-ScramSha256.is)

pub returns-in-MongoDbX509-clause-again : goal.returns-in-MongoDbX509-clause-again
returns-in-MongoDbX509-clause-again c = λ read names. again MongoDbX509 read names ∙ ap Ok (sym c.in-MongoDbX509.is)

pub returns-in-Plain-clause-again : goal.returns-in-Plain-clause-again
returns-in-Plain-clause-again c = λ read names. again Plain read names ∙ ap Ok (sym c.in-Plain.is)

pub returns-in-MongoDbAws-clause-again : goal.returns-in-MongoDbAws-clause-again
returns-in-MongoDbAws-clause-again c = λ read names. again MongoDbAws read names ∙ ap Ok (sym c.in-MongoDbAws.is)

pub returns-in-MongoDbOidc-clause-again : goal.returns-in-MongoDbOidc-clause-again
returns-in-MongoDbOidc-clause-again c = λ read names. again MongoDbOidc read names ∙ ap Ok (sym c.in-MongoDbOidc.is)
