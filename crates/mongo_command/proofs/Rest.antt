-- What stays of a connection over two steps of an exchange, and that one without a fault keeps none.
use Rattle.std.proofs.Common.{◌≡◌, ◌∙◌, refl, None, Some}
use Rattle.mongo_command.specs.Connection.{KeepsRest}
use Rattle.mongo_command.specs.declared.connection.Connection.{Connection}

pub none_some : {T : Type 0} {x : T} → None ≡ Some x → ⊥
none_some p = cc

pub keeps_on : (old middle new : Connection) → KeepsRest old middle → KeepsRest middle new → KeepsRest old new
keeps_on old middle new p q = record {
  address = q.address ∙ p.address;
  id = q.id ∙ p.id;
  description = q.description ∙ p.description;
  server_id = q.server_id ∙ p.server_id;
  token = q.token ∙ p.token;
}

pub keeps_all : (connection : Connection) → KeepsRest connection connection
keeps_all connection = record { address = refl; id = refl; description = refl; server_id = refl; token = refl }
