use Rattle.std.proofs.Common.{None, Some}
use Rattle.mongo_session.specs.declared.reply.Mechanisms.TheVariants.{Sha1, Sha256, Both}
use Rattle.mongo_session.proofs.Accounts.{lists}
use Rattle.mongo_session.proofs.answer.mechanisms_of_user.Goals as goal

pub returns-in-true-true : goal.returns-in-true-true
returns-in-true-true c = lists c.args.accounts.now c.args.user.now (Some Both) c.in-true-true.ensures c.in-true-true.ensures'

pub returns-in-true-false : goal.returns-in-true-false
returns-in-true-false c = lists c.args.accounts.now c.args.user.now (Some Sha1) c.in-true-false.ensures c.in-true-false.ensures'

pub returns-in-false-true : goal.returns-in-false-true
returns-in-false-true c = lists c.args.accounts.now c.args.user.now (Some Sha256) c.in-false-true.ensures c.in-false-true.ensures'

pub returns-in-false-false : goal.returns-in-false-false
returns-in-false-false c = lists c.args.accounts.now c.args.user.now None c.in-false-false.ensures c.in-false-false.ensures'
