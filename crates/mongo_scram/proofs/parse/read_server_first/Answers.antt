use Rattle.std.proofs.Common.{rules}
use Rattle.mongo_scram.proofs.Parts.{no_parts, no_nonce, no_salt, no_base64, no_count}
use Rattle.mongo_scram.proofs.parse.read_server_first.Goals as goal

pub returns-in_default-clause-refused : goal.returns-in_default-clause-refused
returns-in_default-clause-refused c = rw c.refused.ensures (no_parts c.args.message.now c.in_default.ensures)

pub returns-in_default-attribute_value-clause-refused : goal.returns-in_default-attribute_value-clause-refused
returns-in_default-attribute_value-clause-refused c =
    let parts = c.in-Some.parts in
    rw c.refused-in_default-attribute_value.ensures (no_nonce c.args.message.now parts.first.now parts.second.now parts.third.now (search rules) (search rules))

pub returns-in_default-attribute_value-2-clause-refused :
    goal.returns-in_default-attribute_value-2-clause-refused
returns-in_default-attribute_value-2-clause-refused c =
    let parts = c.in-Some.parts in
    rw c.refused-in_default-attribute_value-2.ensures (no_salt c.args.message.now parts.first.now parts.second.now parts.third.now (search rules) (search rules))

pub returns-in_default-2-clause-refused : goal.returns-in_default-2-clause-refused
returns-in_default-2-clause-refused c =
    let parts = c.in-Some.parts in
    rw c.refused-in_default-2.ensures (no_base64 c.args.message.now parts.first.now parts.second.now parts.third.now (search rules) c.in-Some-attribute_value-2.salt_text.now (search rules) (search rules))

pub returns-in_default-attribute_value-3-clause-refused :
    goal.returns-in_default-attribute_value-3-clause-refused
returns-in_default-attribute_value-3-clause-refused c =
    let parts = c.in-Some.parts in
    rw c.refused-in_default-attribute_value-3.ensures (no_count c.args.message.now parts.first.now parts.second.now parts.third.now (search rules) (search rules))
