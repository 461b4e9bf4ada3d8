use Rattle.std.proofs.Common.{◌≡◌, IfOk, IfErr, subst}
use Rattle.mongo_command.specs.Arguments.{TooLongFor, field_elements}
use Rattle.mongo_sasl.proofs.StartBody.{scram_started}
use Rattle.mongo_sasl.proofs.login_bodies.start_body.Goals as goal

pub returns-in_ok-options-in-ScramSha1-clause-body : goal.returns-in_ok-options-in-ScramSha1-clause-body
returns-in_ok-options-in-ScramSha1-clause-body c =
    let options = c.in_ok-options-in-ScramSha1 in
    let started = scram_started c.args.mechanism c.args.payload.now options.options (field_elements c.document_field.result) c.in-ScramSha1.is c.document_field.ensures.elements options.ensures.options in
    subst (λ d. IfOk c.start_with.result (λ body. body ≡ d)) started c.start_with.ensures.body

pub returns-in_ok-options-in-ScramSha1-clause-refused : goal.returns-in_ok-options-in-ScramSha1-clause-refused
returns-in_ok-options-in-ScramSha1-clause-refused c =
    let options = c.in_ok-options-in-ScramSha1 in
    let started = scram_started c.args.mechanism c.args.payload.now options.options (field_elements c.document_field.result) c.in-ScramSha1.is c.document_field.ensures.elements options.ensures.options in
    subst (λ d. IfErr c.start_with.result (λ fault. TooLongFor fault d)) started c.start_with.ensures.refused
