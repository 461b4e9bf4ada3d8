use Rattle.std.proofs.Common.{rules, to_z, of_z}
use Rattle.std.specs.Int.{w32}
use Rattle.mongo_wire.specs.declared.header.Header.{Header as Value}
use Rattle.mongo_wire.proofs.HeaderBack.{header_spelled}
use Rattle.mongo_wire.proofs.header.Header.decode.Goals as goal

pub returns-clause-spelled : goal.returns-clause-spelled
returns-clause-spelled c =
    let header : Value = record { length = to_z w32 (of_z w32 c.signed-2.result); request_id = to_z w32 (of_z w32 c.signed-3.result); response_to = to_z w32 (of_z w32 c.signed-4.result); op_code = c.in_ok-op_code.op_code } in
    header_spelled c.args.bytes.now header c.fits-bytes c.told-bytes (search rules) (search rules)
