-- What a hello reply says.
use Rattle.std.specs.Prelude.{◌≡◌, ℕ, ℤ, Option, List}
use Rattle.mongo_command.specs.declared.hello.HelloReply.{HelloReply}
use Rattle.mongo_command.specs.declared.server_address.ServerAddress.{ServerAddress}
use Rattle.mongo_command.specs.declared.stream_description.StreamDescription.{StreamDescription}
use Rattle.mongo_command.specs.Hello.{IsHelloReply, description_of}

-- its document, and what that says of the server, to the speculative document, and of the connection's number
pub record Greeting : Type 0 where
  pub document : List ℕ
  pub description : StreamDescription
  pub speculative : Option (List ℕ)
  pub connection_id : Option ℤ

-- the reply of a server at this address says so
abbrev pub Greets : ServerAddress → List ℕ → Greeting → Type 0
Greets address reply greeting = (greeting.document ≡ reply) × IsHelloReply address reply greeting.description greeting.speculative greeting.connection_id

-- what a reply that was read says
unfoldable pub greeting_in : ServerAddress → HelloReply → Greeting
greeting_in address reply = record { document = reply.raw_command_response; description = description_of address reply.command_response; speculative = reply.command_response.speculative_authenticate; connection_id = reply.command_response.connection_id }
