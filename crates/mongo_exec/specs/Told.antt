-- What a reply tells, as it is read, and how that is added to what the replies before it came to.
use Rattle.std.specs.Prelude.{◌≡◌, ℕ, ◌+◌, ◌≤◌, ◌<◌, ◌^◌, Option, List, [], ◌++◌, map, unwrap_or, option_and_then, option_to_list, All}
use Rattle.mongo_wire.specs.declared.write_error.IndexedWriteError.{IndexedWriteError}
use Rattle.mongo_wire.specs.declared.write_error.WriteConcernError.{WriteConcernError}
use Rattle.mongo_exec.specs.Reply.{Said, errors_in, IsPlaceIn}
use Rattle.mongo_exec.specs.Outcome.{shifted}
use Rattle.mongo_exec.specs.declared.insert_outcome.InsertOutcome.{InsertOutcome}
use Rattle.mongo_exec.specs.declared.insert_reply.BatchReply.{BatchReply}
use Rattle.mongo_exec.specs.declared.tally.Tally.{Tally}

-- the refused writes
abbrev pub told_errors : BatchReply → List IndexedWriteError
told_errors told = unwrap_or (option_and_then (λ refused. refused.write_errors) told.refused) []

-- the write concern that wasn't met
abbrev pub told_concern : BatchReply → Option WriteConcernError
told_concern told = option_and_then (λ refused. refused.write_concern_error) told.refused

-- it is what the reply says
pub record Tells (told : BatchReply) (said : Said) : Type 0 where
  pub count : told.count ≡ said.count
  pub errors : told_errors told ≡ errors_in said
  pub concern : told_concern told ≡ said.refused.write_concern_error

-- it counts and names no more than so many documents
pub record TellsOf (many : ℕ) (told : BatchReply) : Type 0 where
  pub count : told.count ≤ many
  pub places : All (IsPlaceIn many) (told_errors told)

-- an outcome with what is told of a batch that begins at the place
abbrev pub with_told : ℕ → BatchReply → InsertOutcome → InsertOutcome
with_told place told outcome = record {
  inserted = outcome.inserted + told.count;
  write_errors = outcome.write_errors ++ map (shifted place) (told_errors told);
  write_concern_errors = outcome.write_concern_errors ++ option_to_list (told_concern told);
  batches = outcome.batches + 1;
}

-- the places have room to be shifted by so many
abbrev pub HasRoomToShift : ℕ → IndexedWriteError → Type 0
HasRoomToShift place error = error.index + place < 2 ^ 32

-- the list is a front of the errors
abbrev pub IsFrontOf : List IndexedWriteError → List IndexedWriteError → Type 0
IsFrontOf list errors = (lag : List IndexedWriteError) × (errors ≡ list ++ lag)

-- the other list has a front of the write errors
abbrev pub IsBehind : Tally → Type 0
IsBehind tally = IsFrontOf tally.other tally.outcome.write_errors
