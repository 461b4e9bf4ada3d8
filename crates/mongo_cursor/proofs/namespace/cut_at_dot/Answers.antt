use Rattle.mongo_cursor.proofs.Namespaces.{cut_at_dot}
use Rattle.mongo_cursor.proofs.namespace.cut_at_dot.Goals as goal

pub returns : goal.returns
returns c = cut_at_dot c.args.text.now c.split_once.result c.split_once.ensures.cases
