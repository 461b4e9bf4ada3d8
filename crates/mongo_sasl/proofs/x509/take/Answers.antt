use Rattle.std.proofs.Common.{rules}
use Rattle.mongo_sasl.proofs.X509Rows.{certificate_taken_by, failed_by, unread_by}
use Rattle.mongo_sasl.proofs.x509.take.Goals as goal

pub returns-in-Ok-clause-taken : goal.returns-in-Ok-clause-taken
returns-in-Ok-clause-taken c =
    let held = c.in-Ok.ensures.found in
    certificate_taken_by c.args.reply.bytes.now c.in-Ok.fields held c.is_success.result (c.is_success.ensures held.elements held.are) c.if-is_success.true

pub returns-in-Ok-2-clause-taken : goal.returns-in-Ok-2-clause-taken
returns-in-Ok-2-clause-taken c = tt

pub returns-in-Ok-2-clause-refused : goal.returns-in-Ok-2-clause-refused
returns-in-Ok-2-clause-refused c =
    let held = c.in-Ok.ensures.found in
    failed_by c.args.reply.bytes.now c.in-Ok.fields held c.is_success.result (c.is_success.ensures held.elements held.are) _ c.if-is_success.false (search rules)

pub returns-in-Err-clause-refused : goal.returns-in-Err-clause-refused
returns-in-Err-clause-refused c = unread_by c.args.reply.bytes.now c.in-Err.fault _ c.in-Err.ensures.refused c.unreadable_fields.ensures
