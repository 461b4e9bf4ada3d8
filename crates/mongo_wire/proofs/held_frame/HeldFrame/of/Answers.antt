use Rattle.std.proofs.Common.{rules}
use Rattle.mongo_wire.proofs.Contents.{no_content, content_found, no_content_tail}
use Rattle.mongo_wire.proofs.Found.{no_frame, frame_found}
use Rattle.mongo_wire.proofs.held_frame.HeldFrame.of.Goals as goal

pub returns-in-None : goal.returns-in-None
returns-in-None c = record {
  held = no_frame c.args.header c.args.bytes.now
      (no_content_tail c.args.bytes.now c.split_at.result.1.now c.in-Some.offsets c.number-word.result (rw c.in-Some.is at c.in_ok-offsets.ensures.found) c.split_at.ensures.back c.number-word.ensures c.in-None.ensures);
  copied = tt;
  refused = tt;
}

pub returns-in_default-clause-held : goal.returns-in_default-clause-held
returns-in_default-clause-held c = no_frame c.args.header c.args.bytes.now (no_content c.args.bytes.now (rw c.in_default.is at c.in_ok-offsets.ensures.found))

pub returns-in-Some-read_checksum-clause-held : goal.returns-in-Some-read_checksum-clause-held
returns-in-Some-read_checksum-clause-held c =
    let bytes = c.args.bytes.now in
    let content = content_found bytes c.split_at.result.1.now c.in-Some.offsets c.number-word.result c.in-Some-read_checksum.checksum (λ i. (c.type_inv.bytes i).fits) c.if-bytes-lt-FLAGS_LENGTH.false
    (rw c.in-Some.is at c.in_ok-offsets.ensures.found) c.split_at.ensures.back c.in-Some-read_checksum.ensures c.number-word.ensures in
    frame_found c.args.header bytes c.number-word.result c.in-Some-read_checksum.checksum c.in-Some.offsets (search rules) (search rules) (search rules) c.requires.message c.requires.whole content
