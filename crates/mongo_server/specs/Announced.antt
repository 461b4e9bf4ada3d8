-- What a server of this workspace tells every client.
use Rattle.std.specs.Prelude.{ℤ, pos}

-- the number of a conversation
abbrev pub conversation_id : ℤ
conversation_id = pos 1

-- the greatest frame that is read or sent, in bytes
abbrev pub maximum_message_length : ℤ
maximum_message_length = pos 48000000

-- the greatest document, in bytes
abbrev pub maximum_document_length : ℤ
maximum_document_length = pos 16777216
