-- Documents that a command carries under one name: as a sequence beside its document, by the OP_MSG specification, or as
-- an array in its body.
use Rattle.std.specs.Prelude.{◌≡◌, ℕ, ◌+◌, ◌<◌, List, [], ◌∷◌, ◌++◌, length, Contains, ⊤}
use Rattle.std.specs.Fmt.{decimal}
use Rattle.mongo_bson.specs.Document.{Element, spell}
use Rattle.mongo_bson.specs.Framed.{IsFramed, element_bytes, enclosed, maximum_length}
use Rattle.mongo_bson.specs.declared.raw_array_buf.RawArrayBuf.{RawArrayBuf}
use Rattle.mongo_bson.specs.declared.fault.BsonFault.TheVariants.{KeyHasZero, TooLong}
use Rattle.mongo_wire.specs.declared.error.ErrorKind.{ErrorKind}
use Rattle.mongo_wire.specs.declared.error.ErrorKind.TheVariants.{InvalidArgument, OutOfMemory}
use Rattle.mongo_wire.specs.declared.fault.ArgumentFault.TheVariants.{Bson}
use Rattle.mongo_wire.specs.Message.{frame_length}
use Rattle.mongo_command.specs.Exchange.{command_message}
use Rattle.mongo_command.specs.declared.command.Command.{Command}

-- how many bytes the frame of a command has
abbrev pub frame_size : Command → ℕ
frame_size command = frame_length (command_message command)

-- With this document put in after so many others, the frame of a command that carries the collection is longer by this.
abbrev pub LengthensBy : {S : Type 0} → (S → ℕ) → (S → List ℕ → S → Type 0) → (S → List ℕ → Command → Command → Type 0) → ℕ → List ℕ → ℕ → Type 0
LengthensBy {S} count Grows Carries index document growth =
    (old new : S) (identifier : List ℕ) (command short long : Command) → count old ≡ index → Grows old document new → Carries old identifier command short → Carries new identifier command long → frame_size long ≡ frame_size short + growth

abbrev pub IsMemory : ErrorKind → Type 0
IsMemory kind = kind ≡ OutOfMemory

-- ---- a sequence: the documents lie one after another

-- a document adds its own bytes
abbrev pub sequence_growth : ℕ → List ℕ → ℕ
sequence_growth index document = length document

abbrev pub GrowsList : List (List ℕ) → List ℕ → List (List ℕ) → Type 0
GrowsList old document new = new ≡ old ++ document ∷ []

-- the command with one sequence more
abbrev pub CarriesSequence : List (List ℕ) → List ℕ → Command → Command → Type 0
CarriesSequence documents identifier old new = new ≡ record old { document_sequences = old.document_sequences ++ (record { identifier = identifier; documents = documents }) ∷ [] }

-- ---- an array: each document is an element, under its number

-- a document adds a kind byte, its number in decimal, a zero and its own bytes
abbrev pub array_growth : ℕ → List ℕ → ℕ
array_growth index document = 2 + length (decimal index) + length document

abbrev pub numbered_document : ℕ → List ℕ → Element
numbered_document index document = record { kind = 0x03; key = decimal index; value = document }

pub record GrowsArray (old : RawArrayBuf) (document : List ℕ) (new : RawArrayBuf) : Type 0 where
  pub framed : IsFramed old.document
  pub document_is : new.document ≡ enclosed (element_bytes old.document ++ spell (numbered_document old.count document))
  pub counted : new.count ≡ old.count + 1

abbrev pub ArrayPushRefused : RawArrayBuf → List ℕ → ErrorKind → Type 0
ArrayPushRefused array document (InvalidArgument (Bson TooLong)) = maximum_length < length array.document + array_growth array.count document
ArrayPushRefused array document OutOfMemory = ⊤
ArrayPushRefused array document kind = ⊥

abbrev pub collection_element : List ℕ → RawArrayBuf → Element
collection_element identifier array = record { kind = 0x04; key = identifier; value = array.document }

-- the command whose body has the array as an element more, at its end
pub record CarriesArray (array : RawArrayBuf) (identifier : List ℕ) (old new : Command) : Type 0 where
  pub named : Contains identifier 0 → ⊥
  pub command_is : new ≡ record old { body = enclosed (element_bytes old.body ++ spell (collection_element identifier array)) }
  pub framed : IsFramed new.body

abbrev pub ArrayAddRefused : RawArrayBuf → List ℕ → Command → ErrorKind → Type 0
ArrayAddRefused array identifier command (InvalidArgument (Bson KeyHasZero)) = Contains identifier 0
ArrayAddRefused array identifier command (InvalidArgument (Bson TooLong)) = (Contains identifier 0 → ⊥) × (maximum_length < length command.body + length (spell (collection_element identifier array)))
ArrayAddRefused array identifier command OutOfMemory = ⊤
ArrayAddRefused array identifier command kind = ⊥
