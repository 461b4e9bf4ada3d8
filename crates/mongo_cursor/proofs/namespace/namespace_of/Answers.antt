use Rattle.mongo_exec.proofs.Coming.{none_left}
use Rattle.mongo_cursor.proofs.Namespaces.{no_namespace, no_database}
use Rattle.mongo_cursor.proofs.namespace.namespace_of.Goals as goal
use Rattle.mongo_cursor.proofs.namespace.namespace_of.Goals.{in_default-via-in-Some+else-not-is_empty, in_default-via-in_default}

pub returns-in_default : goal.returns-in_default
returns-in_default c = elim c.in_default.branch [
  | in_default-via-in-Some+else-not-is_empty w ↦ no_database c.args.text.now w.in-Some.db.now w.in-Some.collection.now w.in-Some.ensures.1 (none_left w.in-Some.db.now w.if-not-is_empty.ensures)
  | in_default-via-in_default w ↦ no_namespace c.args.text.now w.in_default.ensures
]
