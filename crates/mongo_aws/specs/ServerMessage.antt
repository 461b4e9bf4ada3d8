-- The server's first message: a well-formed document of its nonce and the host of STS, and of nothing else.
use Rattle.std.specs.Prelude.{◌≡◌, ℕ, ◌||◌, Bool, false, not, List, [], ◌∷◌, drop, bytes_eq}
use Rattle.mongo_bson.specs.Document.{Element}
use Rattle.mongo_command.specs.Field.{field_of, Required, ReadsText, HoldsTable}
use Rattle.mongo_aws.specs.declared.server_message.ServerMessage.{ServerMessage}
use Rattle.mongo_aws.specs.Keys.{server_nonce_key, sts_host_key}

-- the bytes of a binary, whatever its subtype
abbrev pub ReadsBinary : Element → List ℕ → Type 0
ReadsBinary e bytes = (e.kind ≡ 0x05) × (bytes ≡ drop 5 e.value)

abbrev pub is_message_key : List ℕ → Bool
is_message_key key = bytes_eq key server_nonce_key || bytes_eq key sts_host_key

-- there is an element of another key
abbrev pub has_foreign_element : List Element → Bool
has_foreign_element [] = false
has_foreign_element (e ∷ es) = not (is_message_key e.key) || has_foreign_element es

-- what the message says
pub record Said : Type 0 where
  pub server_nonce : List ℕ
  pub sts_host : List ℕ

pub record IsMessageTable (elements : List Element) (said : Said) : Type 0 where
  pub alone : has_foreign_element elements ≡ false
  pub server_nonce : Required ReadsBinary (field_of server_nonce_key elements) said.server_nonce
  pub sts_host : Required ReadsText (field_of sts_host_key elements) said.sts_host

abbrev pub IsServerMessage : List ℕ → Said → Type 0
IsServerMessage payload said = HoldsTable IsMessageTable payload said

-- what a message says that borrows it
abbrev pub said_of : ServerMessage → Said
said_of message = record { server_nonce = message.server_nonce.now; sts_host = message.sts_host.now }
