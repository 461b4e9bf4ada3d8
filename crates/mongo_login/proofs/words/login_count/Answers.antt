use Rattle.mongo_login.proofs.Naming.{no_other, unread}
use Rattle.mongo_login.proofs.words.login_count.Goals as goal

pub returns-else-is_count : goal.returns-else-is_count
returns-else-is_count c = no_other c.args.word.now c.parse.result c.in-Ok.count c.is_count.result c.in-Ok.is c.parse.ensures.value.0 c.is_count.ensures c.if-is_count.false

pub returns-in-Err : goal.returns-in-Err
returns-in-Err c = unread c.args.word.now c.parse.result c.in-Err.field-0 c.in-Err.is c.parse.ensures.value.0
