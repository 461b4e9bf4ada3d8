use Rattle.std.proofs.Common.{◌++◌, w32, ap, ◌∙◌}
use Rattle.std.proofs.lemmas.Int.{to_z-of_z}
use Rattle.mongo_service.specs.Sent.{query_fields}
use Rattle.mongo_service.proofs.Responses.{query_framed, query_numbered}
use Rattle.mongo_service.proofs.respond.frame_of_reply.Goals as goal

pub returns-clause-frame : goal.returns-clause-frame
returns-clause-frame c =
    let document = c.args.document.now in
    let start = c.in_ok-frame.ensures.items ∙ c.encode.ensures.bytes in
    let parts = c.in_ok-extend_from_slice-2.ensures.items ∙ ap (λ front. front ++ document) (c.in_ok-extend_from_slice.ensures.items ∙ ap (λ front. front ++ query_fields) start) in
    query_numbered _ document _ c.args.id _ c.args.to (parts ∙ query_framed _ _ _ document c.header_of_reply-header.ensures.header) (to_z-of_z w32 c.args.id c.ranges.id) (to_z-of_z w32 c.args.to c.ranges.to)
