-- Batches that are sent one after another, each once the one before it was answered.
use Rattle.std.specs.Prelude.{◌≡◌, ◌⊎◌, ℕ, Option, None, List, [], ◌∷◌, length, map, All}
use Rattle.mongo_wire.specs.declared.error.ErrorKind.{ErrorKind}
use Rattle.mongo_command.specs.Exchange.{Point, Exchanges, ExchangeRefused}
use Rattle.mongo_command.specs.declared.stream_description.StreamDescription.{StreamDescription}
use Rattle.mongo_exec.specs.Insert.{Insert, insert_message}
use Rattle.mongo_exec.specs.Cut.{IsCutTo}
use Rattle.mongo_exec.specs.Reply.{IsInsertReply, ReplyRefused}
use Rattle.mongo_exec.specs.Outcome.{Answered}

-- the insert of each batch was sent as one frame under the next id, and its reply was taken as one frame, before the next
-- was sent
abbrev pub AreExchanged : StreamDescription → Insert → List Answered → Point → Point → Type 0
AreExchanged description insert [] old new = new ≡ old
AreExchanged description insert (first ∷ more) old new = (between : Point) × Exchanges description.max_message_size_bytes (insert_message insert first.batch) old between first.reply × AreExchanged description insert more between new

-- the reply to a batch says this of it
abbrev pub IsAnswered : Answered → Type 0
IsAnswered answered = IsInsertReply (length answered.batch) answered.reply answered.said

-- The first batches of the documents' cut were sent and answered, and the rest wasn't sent.
pub record Sent (description : StreamDescription) (insert : Insert) (documents : List (List ℕ)) (answered : List Answered) (rest : List (List ℕ)) (old new : Point) : Type 0 where
  pub cut : IsCutTo description insert documents (map (λ a. a.batch) answered) rest
  pub exchanged : AreExchanged description insert answered old new
  pub replies : All IsAnswered answered

-- the batch was sent and its reply isn't read; the connection keeps no fault
pub record Unread (description : StreamDescription) (insert : Insert) (batch : List (List ℕ)) (kind : ErrorKind) (old new : Point) (kept : Option ErrorKind) : Type 0 where
  pub reply : List ℕ
  pub exchanged : Exchanges description.max_message_size_bytes (insert_message insert batch) old new reply
  pub refused : ReplyRefused kind (length batch) reply
  pub kept_is : kept ≡ None

-- why a batch wasn't inserted: its exchange was refused, or its reply isn't read
abbrev pub BatchRefused : StreamDescription → Insert → List (List ℕ) → ErrorKind → Point → Point → Option ErrorKind → Type 0
BatchRefused description insert batch kind old new kept =
    ExchangeRefused kind description.max_message_size_bytes (insert_message insert batch) old new kept
    ⊎ Unread description insert batch kind old new kept
