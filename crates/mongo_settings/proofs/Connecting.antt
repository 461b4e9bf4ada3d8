-- What the connection of a login that is ready came to.
use Rattle.std.proofs.Common.{◌≡◌, ℤ, subst, Option, Result, List}
use Rattle.mongo_wire.specs.Outside.{State}
use Rattle.mongo_command.specs.Helper.{Given}
use Rattle.mongo_command.specs.Exchange.{point}
use Rattle.mongo_sasl.specs.declared.credential.Credential.{Credential}
use Rattle.mongo_scram.specs.Costs.{Ledgers, checkpoint}
use Rattle.mongo_establish.specs.declared.establisher.EstablishError.{EstablishError}
use Rattle.mongo_establish.specs.declared.establisher.PooledConnection.{PooledConnection}
use Rattle.mongo_establish.specs.Setup.{Setup, setup_for, start_of}
use Rattle.mongo_establish.specs.Ending.{EndsEstablishment}
use Rattle.mongo_establish.specs.Options.{options_of_establisher}
use Rattle.mongo_settings.specs.declared.rehearsal.login.PreparedLogin.{PreparedLogin}
use Rattle.mongo_settings.specs.Login.{setup_by}

-- what it asks for with this credential
abbrev pub setup_with : PreparedLogin → Option Credential → Setup
setup_with login credential = setup_for login.pending (options_of_establisher login.establisher) credential login.inputs.nonces login.ids

pub connect_ended : {given : List Given} (login : PreparedLogin) (credential : Option Credential) (old new : State) (after : ℤ) (first last : Ledgers) (r : Result PooledConnection EstablishError) → credential ≡ login.credential
    → EndsEstablishment given (setup_with login credential) (start_of (setup_with login credential) old first) (checkpoint (point new after) last) r → EndsEstablishment given (setup_by login) (start_of (setup_by login) old first) (checkpoint (point new after) last) r
unfolding setup_by
connect_ended {given = given} login credential old new after first last r same ends = subst (λ x. EndsEstablishment given (setup_with login x) (start_of (setup_with login x) old first) (checkpoint (point new after) last) r) same ends
