use Rattle.std.proofs.Common.{◌≡◌, take}
use Rattle.std.specs.Io.KnownBytes.{Appends}
use Rattle.mongo_wire.specs.Measure.{documents_bytes}
use Rattle.mongo_wire.specs.Outside.{WritesOn}
use Rattle.mongo_wire.proofs.write_message.write_documents.Given as goal

abbrev pub invariant-sending : goal.invariant-sending
invariant-sending g l =
    let state = g.K.Outside.state in
    record {
      front : Appends (state l.fn.sink).written (state l.sink).written (documents_bytes (take l.document-index l.documents));
      still : (state l.sink).write_faults ≡ (state l.fn.sink).write_faults;
      on : WritesOn (state l.fn.sink) (state l.sink);
    }
