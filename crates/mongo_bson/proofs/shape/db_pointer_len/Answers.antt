use Rattle.mongo_bson.proofs.Shapes.{no_string_no_id, no_id, string_then_id}
use Rattle.mongo_bson.proofs.shape.db_pointer_len.Goals as goal

pub returns-else-bytes-size-lt12 : goal.returns-else-bytes-size-lt12
returns-else-bytes-size-lt12 c = string_then_id c.args.bytes.now c.in_ok-size.size c.in_ok-size.ensures c.if-bytes-size-lt12.false

pub returns-in_err-size : goal.returns-in_err-size
returns-in_err-size c = rw c.from_residual.ensures (no_string_no_id c.args.bytes.now c.in_err-size.ensures)

pub returns-then-bytes-size-lt12 : goal.returns-then-bytes-size-lt12
returns-then-bytes-size-lt12 c = no_id c.args.bytes.now c.in_ok-size.size c.in_ok-size.ensures c.if-bytes-size-lt12.true
