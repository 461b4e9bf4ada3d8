use Rattle.std.proofs.Common.{arith}
use Rattle.mongo_bson.proofs.Enclosed.{written_whole}
use Rattle.mongo_bson.proofs.writing.seal.Goals as goal

pub returns : goal.returns
returns c =
    let document = c.args.document.now in
    written_whole document.len c.args.at c.args.kind document.items c.as_mut_slice.result.now c.seal_bytes.new.bytes document.ok.0 c.as_mut_slice.ensures.value (omega (arith, c.requires.within, c.requires.after_length)) c.seal_bytes.ensures
