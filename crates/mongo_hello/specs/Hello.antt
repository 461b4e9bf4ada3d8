-- The server, the user and the client of this program.
use Rattle.std.specs.Prelude.{None, Some, codes}
use Rattle.mongo_command.specs.declared.server_address.ServerAddress.{ServerAddress}
use Rattle.mongo_command.specs.declared.server_address.ServerAddress.TheVariants.{Tcp}
use Rattle.mongo_meta.specs.Options.{default_options}
use Rattle.mongo_sasl.specs.declared.credential.Credential.{Credential}
use Rattle.mongo_establish.specs.declared.options.TopologySpec.{TopologySpec}
use Rattle.mongo_establish.specs.Options.{default_max_iterations, client_spec}

-- the port is the default
abbrev pub hello_server : ServerAddress
hello_server = Tcp (codes "db.example.net") None

-- the mechanism is negotiated
abbrev pub hello_user : Credential
hello_user = record { username = Some (codes "user"); source = None; password = Some (codes "pencil"); mechanism = None; mechanism_properties = None }

-- what the client is made of: it says no more of itself than it has to
abbrev pub hello_spec : TopologySpec
hello_spec = client_spec default_options default_max_iterations
