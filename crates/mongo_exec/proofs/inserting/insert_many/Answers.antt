use Rattle.std.proofs.Common.{subst}
use Rattle.mongo_command.specs.EndsExchange.{footing}
use Rattle.mongo_exec.specs.InsertMany.{EndsInsert}
use Rattle.mongo_exec.specs.Insert.{insert_of}
use Rattle.mongo_exec.proofs.WholeInsert.{insert_ends}
use Rattle.mongo_exec.proofs.inserting.insert_many.Goals as goal

pub returns-in-Ok : goal.returns-in-Ok
returns-in-Ok g c =
    let (d, described, plan) = c.in-Ok.ensures.plan in
    let insert = insert_of c.args.db.now c.args.collection.now c.args.ordered in
    let old = footing c.args.connection.now c.args.link.now c.args.ids.now in
    let new = footing c.insert_batches.new.connection c.insert_batches.new.link c.insert_batches.new.ids in
    record {
      ends = subst (λ documents. EndsInsert g.L.Outside.state insert documents c.insert_batches.result old new) c.as_slice-documents.ensures
          (insert_ends g.L.Outside.state insert c.as_slice-documents.result.now old d c.insert_batches.result new described c.in-Ok.ensures.unkept (c.insert_batches.ensures.ends d insert described plan));
    }
