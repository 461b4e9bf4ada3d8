use Rattle.std.proofs.Common.{rules, option_copied, option_map}
use Rattle.mongo_establish.specs.First.{first_document}
use Rattle.mongo_establish.specs.Options.{options_in}
use Rattle.mongo_establish.proofs.HelloExchange.{unbuilt_greeting, unrun_greeting, undescribed_greeting, greeted}
use Rattle.mongo_establish.proofs.Shaking.{refusal_handed_on}
use Rattle.mongo_establish.proofs.handshaker.Handshaker.say_hello.Goals as goal

pub returns-in_err-hello-clause-refused : goal.returns-in_err-hello-clause-refused
returns-in_err-hello-clause-refused g c =
    unbuilt_greeting (options_in c.args.self.now) (option_copied c.args.credential) (option_map first_document c.args.first.now) c.args.connection.now c.requires.undescribed _ _ _ c.requires.faultless (search rules)

pub returns-in_err-reply-clause-refused : goal.returns-in_err-reply-clause-refused
returns-in_err-reply-clause-refused g c =
    unrun_greeting (options_in c.args.self.now) (option_copied c.args.credential) (option_map first_document c.args.first.now) c.args.connection.now c.requires.undescribed c.in_ok-hello.hello c.in_ok-hello.ensures.hello
    _ c.run_hello.new.connection _ _ _ _ c.run_hello.ensures.ends.rest c.run_hello.ensures.ends.counts (search (rules, c.in_err-reply.ensures.ends.refused c.requires.faultless))

pub returns-in_err-describe-clause-refused : goal.returns-in_err-describe-clause-refused
returns-in_err-describe-clause-refused g c =
    undescribed_greeting (options_in c.args.self.now) (option_copied c.args.credential) (option_map first_document c.args.first.now) c.args.connection.now c.requires.undescribed c.in_ok-hello.hello c.in_ok-hello.ensures.hello
    _ _ _ _ c.in_ok-reply.reply c.in_ok-reply.ensures.reply c.run_hello.ensures.ends.counts c.run_hello.new.connection c.run_hello.ensures.ends.rest
    _ c.describe.new.connection c.in_err-describe.ensures.undescribed c.in_ok-reply.ensures.ends.faultless (refusal_handed_on _ c.describe.result c.in_err-describe.field-0.0 _ c.from_residual-in_err-describe.ensures.1 c.in_err-describe.was c.describe.ensures.refused)

pub returns-clause-greeted : goal.returns-clause-greeted
returns-clause-greeted g c =
    greeted (options_in c.args.self.now) (option_copied c.args.credential) (option_map first_document c.args.first.now) c.args.connection.now c.requires.undescribed c.in_ok-hello.hello c.in_ok-hello.ensures.hello
    _ _ _ _ c.in_ok-reply.reply c.in_ok-reply.ensures.reply c.run_hello.ensures.ends.counts c.run_hello.new.connection c.run_hello.ensures.ends.rest
    c.describe.new.connection c.in_ok-reply.ensures.address c.in_ok-reply.ensures.ends.faultless c.in_ok-describe.ensures.described
