use Rattle.std.proofs.Common.{◌≡◌, List, ℕ, IfOk, IfErr, subst}
use Rattle.std.proofs.lemmas.Str.{IsAscii-take}
use Rattle.mongo_command.specs.Exchange.{DocumentRefused}
use Rattle.mongo_aws.proofs.Signatures.{document_is}
use Rattle.mongo_aws.proofs.sigv4.signed_payload.Goals as goal

pub ascii-requires-2 : goal.ascii-requires-2
ascii-requires-2 c = IsAscii-take c.args.date.now 8 c.requires

pub returns-clause-signed : goal.returns-clause-signed
returns-clause-signed c = λ server_nonce is.
    subst (λ (document : List ℕ). IfOk c.payload_of.result (λ payload. payload ≡ document))
    (document_is c.args.credentials.now c.args.host.now server_nonce c.args.date.now _ _ c.ascii.result.now c.args.nonce.now c.region_of.result.now _ _ c.as_str.ensures c.as_str-2.ensures c.ascii.ensures c.token_of.ensures is c.region_of.ensures c.in_ok-header.ensures.header)
    c.payload_of.ensures.message

pub returns-clause-refused : goal.returns-clause-refused
returns-clause-refused c = λ server_nonce is.
    subst (λ (document : List ℕ). IfErr c.payload_of.result (λ e. DocumentRefused e.kind document))
    (document_is c.args.credentials.now c.args.host.now server_nonce c.args.date.now _ _ c.ascii.result.now c.args.nonce.now c.region_of.result.now _ _ c.as_str.ensures c.as_str-2.ensures c.ascii.ensures c.token_of.ensures is c.region_of.ensures c.in_ok-header.ensures.header)
    c.payload_of.ensures.refused
