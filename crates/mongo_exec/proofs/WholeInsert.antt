-- How an insert of many documents ends, by how its planning and its batches end.
use Rattle.std.proofs.Common.{◌≡◌, ℕ, None, Some, Result, Ok, Err, List, inl, inr, refl, arith}
use Rattle.mongo_wire.specs.Outside.{State}
use Rattle.mongo_command.specs.Connection.{kept_fault}
use Rattle.mongo_command.specs.EndsExchange.{Footing}
use Rattle.mongo_command.specs.declared.stream_description.StreamDescription.{StreamDescription}
use Rattle.mongo_exec.specs.Insert.{Insert}
use Rattle.mongo_exec.specs.Course.{EndsBatches}
use Rattle.mongo_exec.specs.Outcome.{nothing_inserted}
use Rattle.mongo_exec.specs.InsertMany.{EndsInsert, BeginRefused, described}
use Rattle.mongo_exec.specs.declared.exec_error.InsertFault.{InsertFault}
use Rattle.mongo_exec.specs.declared.insert_outcome.InsertOutcome.{InsertOutcome}

module _ {L : Type 0} (state : L → State) (insert : Insert) (documents : List (List ℕ)) (old : Footing L) where
  pub insert_ends : (d : StreamDescription) (result : Result InsertOutcome InsertFault) (new : Footing L) → described old ≡ Some d → kept_fault old.connection ≡ None → EndsBatches state d insert documents result old new → EndsInsert state insert documents result old new
  insert_ends d (Ok outcome) new is unkept ends = record { inserted = (d, is, ends.inserted); refused = tt; faultless = (unkept, ends.faultless); rest = ends.rest; counts = ends.counts }
  insert_ends d (Err fault) new is unkept ends = record { inserted = tt; refused = inr (d, is, unkept, ends.refused); faultless = tt; rest = ends.rest; counts = ends.counts }

  pub insert_unbegun : (fault : InsertFault) → BeginRefused fault.error (described old) (kept_fault old.connection) insert documents → fault.done ≡ nothing_inserted → EndsInsert state insert documents (Err fault) old old
  insert_unbegun fault cause done = record {
    inserted = tt;
    refused = inl (record { cause = cause; done = done; link = refl; ids = refl; kept = refl });
    faultless = tt;
    rest = record { address = refl; id = refl; description = refl; server_id = refl; token = refl };
    counts = record { reads = omega arith; ends = omega arith; writes = omega arith; told = refl; told_written = refl; flushed = omega arith };
  }
