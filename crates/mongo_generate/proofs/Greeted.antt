-- A server's reply to a hello greets the client, and answers the login that went with it.
use Rattle.std.proofs.Common.{ℕ, ◌^◌, ◌<◌, None, Some, List, length, refl, ap, arith}
use Rattle.std.proofs.lemmas.Int.{ints}
use Rattle.mongo_command.proofs.HelloShort.{length-document_of}
use Rattle.mongo_command.specs.declared.server_address.ServerAddress.{ServerAddress}
use Rattle.mongo_command.specs.Hello.{description_of}
use Rattle.mongo_command.specs.Literal.{document_of}
use Rattle.mongo_establish.specs.Greeting.{Greeting, Greets}
use Rattle.mongo_server.specs.Announced.{maximum_message_length}
use Rattle.mongo_generate.specs.Replies.{speculative_elements, standalone_elements, hello_reply, IsReply}
use Rattle.mongo_generate.proofs.ServerReplies.{standalone, hello_says}
use Rattle.mongo_generate.proofs.Sizes.{body_within}

-- the document that answers the login
abbrev pub answer_of : List ℕ → List ℕ
answer_of server_first = document_of (speculative_elements server_first)

-- what the reply says
abbrev pub greeting_of : ServerAddress → List ℕ → Greeting
greeting_of address server_first = record { document = hello_reply server_first; description = description_of address (standalone (answer_of server_first)); speculative = Some (answer_of server_first); connection_id = None }

-- its text is no longer than its frame
pub short_in : (server_first frame : List ℕ) → IsReply (hello_reply server_first) maximum_message_length frame → length server_first < 2 ^ 26
unfolding hello_reply
short_in server_first frame is =
    let within = is.within in
    omega (arith, ints, body_within frame is.parts is.is_frame, ap length is.body_is, length-document_of (standalone_elements server_first), length-document_of (speculative_elements server_first))

pub greets_by : (address : ServerAddress) (server_first : List ℕ) → length server_first < 2 ^ 29 → Greets address (hello_reply server_first) (greeting_of address server_first)
greets_by address server_first short = (refl, record { response = standalone (answer_of server_first); time = None; reads = hello_says server_first short; taken = (tt, tt); description_is = refl; speculative_is = refl; connection_id_is = refl })
