use Rattle.std.proofs.Common.{ap, length, rules, arith}
use Rattle.mongo_generate.proofs.ReplySizes.{length_hello_reply, length_final}
use Rattle.mongo_generate.proofs.replies.replies_of.Goals as goal

pub returns-in_err-write_reply-clause-short : goal.returns-in_err-write_reply-clause-short
returns-in_err-write_reply-clause-short c = λ first final.
    let memory = c.in_err-write_reply.ensures.short (omega (arith, ap length c.in_ok-hello_reply.ensures.reply, length_hello_reply c.args.server_first.now first)) in
    search rules

pub returns-in_err-write_reply-2-clause-short : goal.returns-in_err-write_reply-2-clause-short
returns-in_err-write_reply-2-clause-short c = λ first final.
    let memory = c.in_err-write_reply-2.ensures.short (omega (arith, ap length c.in_ok-final_reply.ensures.reply, length_final c.args.server_final.now final)) in
    search rules
