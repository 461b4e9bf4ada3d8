use Rattle.std.proofs.Common.{length, ap, arith}
use Rattle.mongo_exec.proofs.Greedy.{front_within}
use Rattle.mongo_exec.proofs.batch.batch_length.Goals as goal
use Rattle.mongo_exec.proofs.batch.batch_length.Goals.{then-count-most-via-then-count-most, then-count-most-via-else-count-most+then-length-room}

pub returns-then-count-most-clause-greatest : goal.returns-then-count-most-clause-greatest
returns-then-count-most-clause-greatest c n within few short =
    elim c.then-count-most.branch [
      | then-count-most-via-then-count-most w ↦ omega (arith, few, w.if-count-most)
      | then-count-most-via-else-count-most+then-length-room w ↦
          (let over = front_within c.args.documents.now c.cutting.document-index n c.args.room c.document-item.result within c.document-item.is
          (omega (arith, w.if-length-room.true, c.cutting.invariant.sum, c.cutting.invariant.short, ap length c.as_bytes-length.ensures.bytes)) short in
          omega (arith, over, c.cutting.invariant.counted))
    ]
