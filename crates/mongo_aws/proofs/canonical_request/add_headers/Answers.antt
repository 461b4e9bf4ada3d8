use Rattle.std.proofs.Common.{subst, option_copied}
use Rattle.sha2.specs.Hashers.{Holds256}
use Rattle.mongo_aws.proofs.HeaderTexts.{lines_added}
use Rattle.mongo_aws.proofs.canonical_request.add_headers.Goals as goal

pub returns : goal.returns
returns c = λ added held.
    subst (Holds256 c.add_header-6.new.hasher) (lines_added added (option_copied c.args.request.now.token) c.args.request.now.date.now c.args.request.now.host.now c.args.request.now.nonce.now)
    (c.add_header-6.ensures _ (c.add_header-5.ensures _ (c.add_token.ensures _ (c.add_header-4.ensures _ (c.add_header-3.ensures _ (c.add_header-2.ensures _ (c.add_header.ensures added held)))))))
