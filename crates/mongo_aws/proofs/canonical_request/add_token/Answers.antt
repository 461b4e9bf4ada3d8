use Rattle.std.proofs.Common.{ap, subst, option_copied, ◌++◌}
use Rattle.sha2.specs.Hashers.{Holds256}
use Rattle.mongo_aws.proofs.HeaderTexts.{token_line, no_token}
use Rattle.mongo_aws.proofs.canonical_request.add_token.Goals as goal

pub returns-in-Some : goal.returns-in-Some
returns-in-Some c = λ added held.
    subst (λ text. Holds256 c.add_header.new.hasher (added ++ text)) (token_line (option_copied c.args.token) c.in-Some.token.now (ap option_copied c.in-Some.is)) (c.add_header.ensures added held)

pub returns-in_default : goal.returns-in_default
returns-in_default c = λ added held. subst (Holds256 c.args.hasher.now) (no_token (option_copied c.args.token) (ap option_copied c.in_default.is) added) held
