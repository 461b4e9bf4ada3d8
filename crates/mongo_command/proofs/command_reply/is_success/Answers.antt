use Rattle.mongo_command.specs.Field.{field_of}
use Rattle.mongo_command.specs.Keys.{ok_key}
use Rattle.mongo_command.proofs.HelloRead.{is_one, succeeds}
use Rattle.mongo_command.proofs.command_reply.is_success.Goals as goal

pub returns-in-Some : goal.returns-in-Some
returns-in-Some c = λ elements are.
    succeeds (field_of ok_key elements) c.in-Some.ok c.get_int_raw.result c.eq.result (c.in-Some.ensures elements are) c.get_int_raw.ensures.meaning (is_one c.get_int_raw.result c.eq.result c.eq.ensures)
