use Rattle.std.proofs.Common.{[], ◌∙◌, subst, option_copied}
use Rattle.sha2.specs.Hashers.{Holds256}
use Rattle.mongo_aws.proofs.HeaderTexts.{whole_request}
use Rattle.mongo_aws.proofs.canonical_request.canonical_request_hash.Goals as goal

pub returns-clause-hash : goal.returns-clause-hash
returns-clause-hash c =
    let request = c.args.request.now in
    c.hex_of.ensures.hash _
    (subst (Holds256 c.update-5.new.self)
    (whole_request (option_copied request.token) request.date.now request.host.now request.nonce.now _ _ _ _ _
    c.as_slice.ensures
    c.as_slice-2.ensures
    (c.as_bytes.ensures.value ∙ c.signed_headers.ensures request.date.now request.host.now request.nonce.now)
    c.as_slice-3.ensures
    (c.as_slice-4.ensures ∙ c.hash.ensures.hash))
    (c.update-5.ensures _ (c.update-4.ensures _ (c.update-3.ensures _ (c.update-2.ensures _ (c.add_headers.ensures _ (c.update.ensures [] c.new-hasher.ensures)))))))
