use Rattle.std.proofs.Common.{arith, length, ap}
use Rattle.mongo_wire.proofs.Passed.{length_within}
use Rattle.mongo_wire.proofs.document_sequence.documents_size.Goals as goal

pub returns-then-length-room-clause-none : goal.returns-then-length-room-clause-none
returns-then-length-room-clause-none c =
    let within = length_within (λ d. d) c.args.documents.now c.adding.document-index c.document-item.result c.adding-test.true c.document-item.is in
    omega (arith, within, c.adding.invariant.sum, c.adding.invariant.within, c.if-length-room.true, ap length c.as_bytes-length.ensures.bytes)
