use Rattle.std.proofs.Common.{refl, arith}
use Rattle.mongo_command.proofs.CommandDocument.{both_joined}
use Rattle.mongo_command.proofs.HelloShort.{short_only_memory}
use Rattle.mongo_generate.specs.Replies.{final_elements, final_reply}
use Rattle.mongo_generate.proofs.ReplySizes.{length_final}
use Rattle.mongo_generate.proofs.replies.final_reply.Goals as goal

pub returns-clause-short : goal.returns-clause-short
unfolding final_reply
returns-clause-short c = λ short.
    let round = both_joined _ _ _ _ c.int32_field-id.ensures.elements (both_joined _ _ _ _ c.boolean_field-done.ensures.elements (both_joined _ _ _ _ c.generic_binary_field-payload.ensures.elements refl)) in
    let fields = both_joined _ _ _ _ c.ok_field.ensures.elements round in
    short_only_memory c.document_of.result _ (final_elements c.args.server_final.now) fields (let size = length_final c.args.server_final.now short in omega (arith, size)) c.document_of.ensures.refused
