use Rattle.std.proofs.Common.{ap, option_copied}
use Rattle.mongo_aws.proofs.HeaderTexts.{names_with, names_without}
use Rattle.mongo_aws.proofs.canonical_request.signed_headers.Goals as goal

pub returns-in-Some : goal.returns-in-Some
returns-in-Some c = λ date host nonce. names_with (option_copied c.args.token) c.in-Some.field-0.now date host nonce (ap option_copied c.in-Some.is)

pub returns-in-None : goal.returns-in-None
returns-in-None c = λ date host nonce. names_without (option_copied c.args.token) date host nonce (ap option_copied c.in-None.is)
