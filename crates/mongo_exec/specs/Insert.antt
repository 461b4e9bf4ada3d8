-- The insert command, by the server's documentation of it: the collection's name and whether the first refused write ends
-- it stand in its body, and the documents in a sequence beside it.
use Rattle.std.specs.Prelude.{ℕ, Bool, None, List, [], ◌∷◌, codes}
use Rattle.mongo_bson.specs.Document.{Element}
use Rattle.mongo_wire.specs.declared.document_sequence.DocumentSequence.{DocumentSequence}
use Rattle.mongo_wire.specs.declared.message.Message.{Message}
use Rattle.mongo_command.specs.Literal.{text_element, boolean_element, document_of}
use Rattle.mongo_command.specs.Command.{command_of, command_document}
use Rattle.mongo_command.specs.Collection.{frame_size}
use Rattle.mongo_command.specs.Exchange.{command_message}
use Rattle.mongo_command.specs.declared.command.Command.{Command}

-- what an insert says beside its documents
pub record Insert : Type 0 where
  pub db : List ℕ
  pub collection : List ℕ
  pub ordered : Bool

abbrev pub insert_of : List ℕ → List ℕ → Bool → Insert
insert_of db collection ordered = record { db = db; collection = collection; ordered = ordered }

abbrev pub insert_elements : Insert → List Element
insert_elements insert = text_element (codes "insert") insert.collection ∷ (boolean_element (codes "ordered") insert.ordered ∷ [])

abbrev pub insert_body : Insert → List ℕ
insert_body insert = document_of (insert_elements insert)

-- the command without documents
abbrev pub bare_command : Insert → Command
bare_command insert = command_of (codes "insert") insert.db (insert_body insert) None

abbrev pub documents_sequence : List (List ℕ) → DocumentSequence
documents_sequence documents = record { identifier = codes "documents"; documents = documents }

-- the insert of these documents
abbrev pub insert_command : Insert → List (List ℕ) → Command
insert_command insert documents = record (bare_command insert) { document_sequences = documents_sequence documents ∷ [] }

-- the message that it is sent as
abbrev pub insert_message : Insert → List (List ℕ) → Message
insert_message insert documents = command_message (insert_command insert documents)

-- its document, whatever documents stand beside it
abbrev pub insert_document : Insert → List ℕ
insert_document insert = command_document (bare_command insert)

-- how many bytes its frame has
abbrev pub insert_size : Insert → List (List ℕ) → ℕ
insert_size insert documents = frame_size (insert_command insert documents)
