-- What a connection holds of the reply to its hello.
use Rattle.std.specs.Prelude.{◌≡◌, Some}
use Rattle.mongo_command.specs.declared.connection.Connection.{Connection}
use Rattle.mongo_command.specs.declared.hello.HelloReply.{HelloReply}
use Rattle.mongo_command.specs.Connection.{kept_fault}
use Rattle.mongo_command.specs.Conversation.{AreMet}
use Rattle.mongo_command.specs.Hello.{description_of, description_demands}

-- the description and the server's number; nothing else changes
pub record IsDescribedBy (old new : Connection) (reply : HelloReply) : Type 0 where
  pub taken : AreMet (description_demands reply.command_response)
  pub description_is : new.stream_description ≡ Some (description_of reply.server_address reply.command_response)
  pub server_id : new.server_id ≡ reply.command_response.connection_id
  pub address : new.address ≡ old.address
  pub id : new.id ≡ old.id
  pub token : new.oidc_token_gen_id ≡ old.oidc_token_gen_id
  pub fault : kept_fault new ≡ kept_fault old
