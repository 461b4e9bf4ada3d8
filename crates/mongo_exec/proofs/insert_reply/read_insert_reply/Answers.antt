use Rattle.std.proofs.lemmas.Result.{err_from_is_err_and}
use Rattle.mongo_exec.proofs.ReplyRows.{command_refused, reply_read, reply_other}
use Rattle.mongo_exec.proofs.insert_reply.read_insert_reply.Goals as goal

pub returns-in_err-command_body-clause-refused : goal.returns-in_err-command_body-clause-refused
returns-in_err-command_body-clause-refused c =
    let e = err_from_is_err_and c.from_residual.result c.from_residual.ensures.1 in
    rw (e.1, e.2) (command_refused c.in_err-command_body.field-0.0.kind _ _ c.in_err-command_body.ensures.refused)

pub returns-then-is_of-clause-read : goal.returns-then-is_of-clause-read
returns-then-is_of-clause-read c =
    reply_read _ _ (record { count = c.in_ok-count.count; refused = c.in_ok-refused.refused }) c.in_ok-command_body.ensures.succeeded c.in_ok-count.ensures.count c.in_ok-refused.ensures.said (c.is_of.ensures.0 c.if-is_of.true)

pub returns-else-is_of-clause-refused : goal.returns-else-is_of-clause-refused
returns-else-is_of-clause-refused c =
    rw (c.into.ensures) (reply_other c.args.documents _ (record { count = c.in_ok-count.count; refused = c.in_ok-refused.refused }) c.in_ok-command_body.ensures.succeeded c.in_ok-count.ensures.count c.in_ok-refused.ensures.said (λ within. (let yes = c.is_of.ensures.1 within in let no = c.if-is_of.false in cc)))
