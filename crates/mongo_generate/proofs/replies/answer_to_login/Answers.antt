use Rattle.std.proofs.Common.{refl, arith}
use Rattle.mongo_command.proofs.CommandDocument.{both_joined}
use Rattle.mongo_command.proofs.HelloShort.{short_only_memory, length-document_of}
use Rattle.mongo_generate.specs.Replies.{speculative_elements}
use Rattle.mongo_generate.proofs.replies.answer_to_login.Goals as goal

pub returns-clause-short : goal.returns-clause-short
returns-clause-short c = λ short.
    let elements = speculative_elements c.args.server_first.now in
    let fields = both_joined _ _ _ _ c.int32_field-id.ensures.elements (both_joined _ _ _ _ c.boolean_field-done.ensures.elements (both_joined _ _ _ _ c.generic_binary_field-payload.ensures.elements refl)) in
    short_only_memory c.document_of.result _ elements fields (omega (arith, length-document_of elements)) c.document_of.ensures.refused
