use Rattle.mongo_command.proofs.FrameSizes.{sequence_lengthens}
use Rattle.mongo_command.proofs.document_collection.DocumentsRawDocumentCollection.bytes_added.Goals as goal

pub returns-clause-lengthens : goal.returns-clause-lengthens
returns-clause-lengthens c = rw (c.as_bytes.ensures.bytes) (sequence_lengthens c.args._index c.args.document.now)
