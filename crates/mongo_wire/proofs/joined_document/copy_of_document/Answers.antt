use Rattle.std.proofs.Common.{IfOk, ◌≡◌, ◌<◌, ℕ, get_or, subst}
use Rattle.mongo_wire.proofs.Arrays.{copied_whole, copied_framed}
use Rattle.mongo_wire.proofs.joined_document.copy_of_document.Goals as goal

pub returns : goal.returns
returns c =
    let result = c.to_raw_document_buf.result in
    let copied = subst (λ bytes. IfOk result (λ d. d ≡ bytes)) c.of_framed.ensures c.to_raw_document_buf.ensures.copied in
    let small : (i : ℕ) → get_or c.args.bytes.now i 0 < 256 = λ i. (c.type_inv.bytes i).fits in
    record {
      copied = copied_whole c.args.bytes.now result c.requires small copied;
      framed = copied_framed c.args.bytes.now result c.requires copied;
      refused = c.to_raw_document_buf.ensures.refused;
    }
