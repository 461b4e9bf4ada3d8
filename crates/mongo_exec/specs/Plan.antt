-- How documents are inserted that nothing before the first byte refuses.
use Rattle.std.specs.Prelude.{◌≡◌, ℕ, pos, ◌+◌, List, []}
use Rattle.mongo_command.specs.declared.stream_description.StreamDescription.{StreamDescription}
use Rattle.mongo_exec.specs.Insert.{Insert, bare_command, insert_size}
use Rattle.mongo_exec.specs.InsertMany.{IsSendable}
use Rattle.mongo_exec.specs.declared.plan.Plan.{Plan}

-- the command without documents, and what of them a batch may have by the server's limits
pub record IsPlan (description : StreamDescription) (insert : Insert) (documents : List (List ℕ)) (plan : Plan) : Type 0 where
  pub sendable : IsSendable description insert documents
  pub command : plan.command ≡ bare_command insert
  pub ordered : plan.ordered ≡ insert.ordered
  pub most : pos plan.most ≡ description.max_write_batch_size
  pub room : pos (insert_size insert [] + plan.room) ≡ description.max_message_size_bytes
