-- The frames that requests come in.
use Rattle.std.specs.Prelude.{◌≡◌, ℕ, pos, ◌⊎◌, List, ◌∷◌, ◌++◌, length, codes}
use Rattle.mongo_bson.specs.Framed.{IsFramed}
use Rattle.mongo_wire.specs.Frame.{Frame, IsFrame}
use Rattle.mongo_wire.specs.Header.{code_number, signed_at}
use Rattle.mongo_wire.specs.declared.op_code.OpCode.TheVariants.{Query}
use Rattle.mongo_session.specs.Requests.{IsCommandNamed}
use Rattle.mongo_session.specs.Values.{HasInside}

-- the collection that a command is asked of, and the key that wraps one
abbrev pub command_collection : List ℕ
command_collection = codes "admin.$cmd"

abbrev pub query_key : List ℕ
query_key = codes "$query"

-- the command of a query's document: what it wraps as `$query`, or the document itself where that isn't its first key
abbrev pub IsCommandOf : List ℕ → List ℕ → Type 0
IsCommandOf document command = ((IsCommandNamed document query_key → ⊥) × (command ≡ document)) ⊎ (IsCommandNamed document query_key × HasInside document query_key command)

-- what follows the header of an OP_QUERY on `admin.$cmd`: int32 flags, the collection's name, two int32, a document, and what may
-- follow it
pub record IsQueryOf (body document : List ℕ) : Type 0 where
  pub flags : List ℕ
  pub numbers : List ℕ
  pub more : List ℕ
  pub spelled : body ≡ flags ++ (command_collection ++ (0 ∷ (numbers ++ (document ++ more))))
  pub flags_four : length flags ≡ 4
  pub numbers_eight : length numbers ≡ 8

-- no document is asked for so
abbrev pub HasNoQuery : List ℕ → Type 0
HasNoQuery body = (document : List ℕ) → IsFramed document → IsQueryOf body document → ⊥

-- such a body, with the command that its document asks for
pub record IsQueryBody (body command : List ℕ) : Type 0 where
  pub document : List ℕ
  pub is_query : IsQueryOf body document
  pub framed : IsFramed document
  pub command_is : IsCommandOf document command

-- an OP_QUERY whose length field is its length
pub record IsQuery (frame command : List ℕ) : Type 0 where
  pub header : List ℕ
  pub body : List ℕ
  pub spelled : frame ≡ header ++ body
  pub sixteen : length header ≡ 16
  pub counted : signed_at 0 header ≡ pos (length frame)
  pub code : signed_at 12 header ≡ code_number Query
  pub is_body : IsQueryBody body command

-- an OP_MSG whose body is the document
abbrev pub IsMessage : List ℕ → List ℕ → Type 0
IsMessage frame document = (parts : Frame) × IsFrame frame parts × (parts.body ≡ document)

-- a frame that carries a request, and the request's document
abbrev pub CarriesRequest : List ℕ → List ℕ → Type 0
CarriesRequest frame document = IsMessage frame document ⊎ IsQuery frame document
