use Rattle.std.proofs.Common.{◌≡◌, ◌+◌, ◌∷◌, arith, length, ap, length-append}
use Rattle.mongo_wire.specs.Frame.{sequence_bytes}
use Rattle.mongo_wire.specs.Measure.{documents_bytes}
use Rattle.mongo_wire.proofs.document_sequence.DocumentSequence.size.Goals as goal

pub returns-in-Some-clause-size : goal.returns-in-Some-clause-size
returns-in-Some-clause-size c =
    let s = c.args.self.now in
    let counted : length (sequence_bytes s) ≡ length s.identifier + length (0 ∷ documents_bytes s.documents) = length-append s.identifier _ in
    omega (arith, counted, ap length c.as_bytes-identifier.ensures, ap (λ d. length (documents_bytes d)) c.as_slice.ensures, c.in-Some.ensures.size)
