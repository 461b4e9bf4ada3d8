use Rattle.std.proofs.Common.{Some, sym, subst}
use Rattle.mongo_wire.specs.Buffer.{held_bytes}
use Rattle.mongo_wire.specs.Copies.{CopiesSequences}
use Rattle.mongo_wire.specs.Header.{maximum_of}
use Rattle.mongo_wire.specs.Message.{IsUnreadable}
use Rattle.mongo_wire.proofs.MessageRead.{read_whole, read_parts}
use Rattle.mongo_wire.proofs.message.Message.read_from.Goals as goal

pub of_frame-requires-clause-copied : goal.of_frame-requires-clause-copied
of_frame-requires-clause-copied g c =
    subst (λ copies. CopiesSequences (held_bytes c.take_next_frame.new.self) (Some copies) c.take_next_frame.new.copies) c.new.ensures (c.in-Ok-true.ensures.copied c.in-Ok-true.field-0-test)

pub returns-in-Ok-true-clause-read : goal.returns-in-Ok-true-clause-read
returns-in-Ok-true-clause-read g c =
    let read = c.in-Ok-true.ensures.taken c.in-Ok-true.field-0-test in
    read_whole (maximum_of c.args.maximum) _ _ c.take_next_frame.new.self c.of_frame.result read (c.of_frame.ensures read.frame read.parts read.holds)

pub returns-in-Ok-true-clause-again : goal.returns-in-Ok-true-clause-again
returns-in-Ok-true-clause-again g c = λ frame rest parts is frame_is within.
    let (found, holds, left) = c.in-Ok-true.ensures.again frame rest parts is frame_is within in
    (sym (read_parts frame parts c.of_frame.result frame_is (c.of_frame.ensures frame parts holds)), left)

pub returns-in-Err-clause-again : goal.returns-in-Err-clause-again
returns-in-Err-clause-again g c = λ frame rest parts is frame_is within. subst IsUnreadable (sym c.into-in-Err.ensures) (c.in-Err.ensures.again frame rest parts is frame_is within)
