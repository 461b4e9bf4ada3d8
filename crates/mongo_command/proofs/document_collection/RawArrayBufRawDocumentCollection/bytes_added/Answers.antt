use Rattle.std.proofs.lemmas.Bool.{false≢true}
use Rattle.std.proofs.Common.{arith, lit<, subst, IsOk}
use Rattle.std.proofs.lemmas.Fmt.{length-decimal-le}
use Rattle.mongo_command.proofs.FrameSizes.{array_lengthens}
use Rattle.mongo_command.proofs.document_collection.RawArrayBufRawDocumentCollection.bytes_added.Goals as goal

pub unreachable-requires : goal.unreachable-requires
unreachable-requires c =
    let digits = length-decimal-le 20 c.args.index (lit< tt) (omega arith) (omega arith) in
    false≢true (subst IsOk c.in-Err.is (c.array_entry_size_bytes.ensures.fits.1 (omega (arith, digits, c.as_bytes.ensures.framed.most))))

pub returns-clause-lengthens : goal.returns-clause-lengthens
returns-clause-lengthens c =
    rw (c.in-Ok.ensures.size, c.as_bytes.ensures.bytes) (array_lengthens c.args.index c.args.document.now)
