-- The reply to the insert of a batch: how many documents were inserted, which were refused, and whether the write concern
-- was met.
use Rattle.std.specs.Prelude.{◌≡◌, ℕ, ◌<◌, ◌≤◌, ◌⊎◌, List, [], unwrap_or, All}
use Rattle.mongo_wire.specs.declared.error.ErrorKind.{ErrorKind}
use Rattle.mongo_wire.specs.declared.error.ErrorKind.TheVariants.{InvalidResponse, OutOfMemory}
use Rattle.mongo_wire.specs.declared.fault.ResponseFault.TheVariants.{Body}
use Rattle.mongo_wire.specs.declared.write_error.IndexedWriteError.{IndexedWriteError}
use Rattle.mongo_wire.specs.declared.write_error.InsertManyError.{InsertManyError}
use Rattle.mongo_command.specs.CommandReply.{IsCommandBody, CommandRefused}
use Rattle.mongo_command.specs.Response.{CountIs, CountRefused}
use Rattle.mongo_command.specs.WriteReply.{IsWriteReply, WriteReplyRefused}

-- what a reply says: how many writes the server counts, and what of them it refused
pub record Said : Type 0 where
  pub count : ℕ
  pub refused : InsertManyError

-- the refused writes, by their places in the batch
abbrev pub errors_in : Said → List IndexedWriteError
errors_in said = unwrap_or said.refused.write_errors []

-- the place is one of a list of so many
abbrev pub IsPlaceIn : ℕ → IndexedWriteError → Type 0
IsPlaceIn many error = error.index < many

-- it says no more than there is to say of so many documents
pub record IsOf (many : ℕ) (said : Said) : Type 0 where
  pub count : said.count ≤ many
  pub places : All (IsPlaceIn many) (errors_in said)

-- the document reads as a reply that says this
pub record Reads (reply : List ℕ) (said : Said) : Type 0 where
  pub body : IsCommandBody reply
  pub count : CountIs reply said.count
  pub refused : IsWriteReply reply said.refused

-- the document is a reply to the insert of so many documents, which says this
pub record IsInsertReply (many : ℕ) (reply : List ℕ) (said : Said) : Type 0 where
  pub reads : Reads reply said
  pub is_of : IsOf many said

-- ---- why it isn't read, in this order

-- the command failed, or its reply isn't well formed
abbrev pub CommandRow : ErrorKind → List ℕ → Type 0
CommandRow OutOfMemory reply = ⊥
CommandRow kind reply = CommandRefused kind reply

-- the count isn't there
abbrev pub CountRow : ErrorKind → List ℕ → Type 0
CountRow kind reply = IsCommandBody reply × CountRefused kind reply

-- the writes aren't told of as they have to be
abbrev pub WritesRow : ErrorKind → List ℕ → Type 0
WritesRow OutOfMemory reply = ⊥
WritesRow kind reply = IsCommandBody reply × ((count : ℕ) × CountIs reply count) × WriteReplyRefused kind reply

-- it speaks of more documents than there are
abbrev pub PlacesRow : ErrorKind → ℕ → List ℕ → Type 0
PlacesRow (InvalidResponse Body) many reply = (said : Said) × Reads reply said × (IsOf many said → ⊥)
PlacesRow kind many reply = ⊥

abbrev pub ReplyRow : ErrorKind → ℕ → List ℕ → Type 0
ReplyRow kind many reply = CommandRow kind reply ⊎ (CountRow kind reply ⊎ (WritesRow kind reply ⊎ PlacesRow kind many reply))

abbrev pub ReplyRefused : ErrorKind → ℕ → List ℕ → Type 0
ReplyRefused kind many reply = ReplyRow kind many reply ⊎ (kind ≡ OutOfMemory)
