use Rattle.mongo_wire.proofs.read_document.read_document_bytes.Goals as goal

pub returns-in-Ok-clause-refused : goal.returns-in-Ok-clause-refused
returns-in-Ok-clause-refused g c = tt
