-- What comes of a login.
use Rattle.std.specs.Prelude.{◌≢◌, ℕ, Bool, true, false, Result, Ok, Err, List, ⊤}
use Rattle.mongo_wire.specs.declared.error.ErrorKind.TheVariants.{OutOfMemory}
use Rattle.mongo_establish.specs.declared.establisher.EstablishError.{EstablishError}
use Rattle.mongo_establish.specs.declared.establisher.PooledConnection.{PooledConnection}
use Rattle.mongo_server.specs.declared.server_core.ServerCore.{ServerCore}
use Rattle.mongo_server.specs.Acceptance.{Accepts}
use Rattle.mongo_server.specs.Authentication.{Authentication, first_of, close_of, server_final_of, IsReadAs}
use Rattle.mongo_server.specs.Server.{IsOwed, IsValidClientFinal}
use Rattle.mongo_generate.specs.declared.acceptance.Acceptance.{Acceptance}
use Rattle.mongo_generate.specs.Replies.{AreReplies}

-- the last messages of an authentication
abbrev pub acceptance_of : Authentication → Acceptance
acceptance_of x = record { client_final = close_of x; server_final = server_final_of x }

-- the server has taken the client's last message, and owes its own
abbrev pub IsTakenBy : ServerCore → Acceptance → Type 0
IsTakenBy server acceptance = IsValidClientFinal server acceptance.client_final × IsOwed server acceptance.server_final

-- an establishment ended so: a connection was made, or it was refused for another cause than memory
abbrev pub IsAcceptedAs : Result PooledConnection EstablishError → Bool → Type 0
IsAcceptedAs (Ok pooled) true = ⊤
IsAcceptedAs (Err refusal) false = refusal.cause.kind ≢ OutOfMemory
IsAcceptedAs ended accepted = ⊥

-- the bytes are the replies of the authentication, which its client accepts
pub record AreAuthenticationReplies (x : Authentication) (bytes : List ℕ) : Type 0 where
  pub replies : AreReplies (first_of x) (server_final_of x) bytes
  pub reads : IsReadAs (first_of x) x
  pub accepts : Accepts x (server_final_of x)
