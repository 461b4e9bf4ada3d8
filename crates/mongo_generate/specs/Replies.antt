-- A server's two replies to a login: that to the hello, which answers the login that went with it, and that to the command
-- after it.
use Rattle.std.specs.Prelude.{◌≡◌, ℕ, ℤ, pos, ◌≤ℤ◌, Bool, true, false, List, [], ◌∷◌, ◌++◌, length}
use Rattle.mongo_bson.specs.Document.{Element}
use Rattle.mongo_command.specs.Literal.{document_element, boolean_element, int32_element, ok_element, document_of, generic_element}
use Rattle.mongo_command.specs.Keys.{max_bson_object_size_key, max_message_size_bytes_key, speculative_authenticate_key}
use Rattle.mongo_sasl.specs.Keys.{conversation_id_key, done_key, payload_key}
use Rattle.mongo_server.specs.Announced.{conversation_id, maximum_document_length, maximum_message_length}
use Rattle.mongo_wire.specs.declared.memory_link.MemoryLink.{MemoryLink}
use Rattle.mongo_wire.specs.Frame.{Frame, IsFrame}
use Rattle.mongo_wire.specs.Memory.{bytes_written}

-- what a round of a conversation says
abbrev pub round_elements : Bool → List ℕ → List Element
round_elements done payload = int32_element conversation_id_key conversation_id ∷ boolean_element done_key done ∷ generic_element payload_key payload ∷ []

abbrev pub speculative_elements : List ℕ → List Element
speculative_elements server_first = round_elements false server_first

-- what a standalone server says, around the document that answers the login
abbrev pub standalone_around : List ℕ → List Element
standalone_around answer =
    ok_element
    ∷ int32_element max_bson_object_size_key maximum_document_length
    ∷ int32_element max_message_size_bytes_key maximum_message_length
    ∷ document_element speculative_authenticate_key answer
    ∷ []

abbrev pub standalone_elements : List ℕ → List Element
standalone_elements server_first = standalone_around (document_of (speculative_elements server_first))

abbrev pub final_elements : List ℕ → List Element
final_elements server_final = ok_element ∷ round_elements true server_final

-- a standalone server's answer to a hello, with its first message
unfoldable pub hello_reply : List ℕ → List ℕ
hello_reply server_first = document_of (standalone_elements server_first)

-- the end of the login, with its last
unfoldable pub final_reply : List ℕ → List ℕ
final_reply server_final = document_of (final_elements server_final)

-- the bytes are a frame of this document, within a maximum
pub record IsReply (document : List ℕ) (maximum : ℤ) (frame : List ℕ) : Type 0 where
  pub parts : Frame
  pub is_frame : IsFrame frame parts
  pub body_is : parts.body ≡ document
  pub within : pos (length frame) ≤ℤ maximum

-- the frame of such a reply was written to the link
pub record WritesReply (document : List ℕ) (old new : MemoryLink) : Type 0 where
  pub frame : List ℕ
  pub is_reply : IsReply document maximum_message_length frame
  pub written : bytes_written new ≡ bytes_written old ++ frame

-- the bytes are the frames of the two replies
pub record AreReplies (server_first server_final bytes : List ℕ) : Type 0 where
  pub hello : List ℕ
  pub final : List ℕ
  pub joined : bytes ≡ hello ++ final
  pub hello_is : IsReply (hello_reply server_first) maximum_message_length hello
  pub final_is : IsReply (final_reply server_final) maximum_message_length final

-- the bytes are the frames of some server's two replies
abbrev pub AreServerReplies : List ℕ → Type 0
AreServerReplies bytes = (server_first server_final : List ℕ) × AreReplies server_first server_final bytes
