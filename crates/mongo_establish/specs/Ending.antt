-- How an establishment ends over a link: all that is promised of it, for those who hand it on.
use Rattle.std.specs.Prelude.{◌≡◌, ℕ, ◌⊎◌, Some, List, Result, IfOk, IfErr}
use Rattle.mongo_wire.specs.declared.error.ErrorKind.TheVariants.{IncompatibleServer, OutOfMemory}
use Rattle.mongo_wire.specs.Outside.{Unfailed}
use Rattle.mongo_command.specs.Helper.{Given}
use Rattle.mongo_command.specs.Conversation.{Said, Turn, refuses, LeadsGiven, LeftBy}
use Rattle.mongo_command.specs.Exchange.{CountsStay}
use Rattle.mongo_scram.specs.Costs.{Checkpoint, SameEntries}
use Rattle.mongo_establish.specs.declared.establisher.EstablishError.{EstablishError}
use Rattle.mongo_establish.specs.declared.establisher.PooledConnection.{PooledConnection}
use Rattle.mongo_establish.specs.Setup.{Setup}
use Rattle.mongo_establish.specs.Established.{Established}
use Rattle.mongo_establish.specs.Greeting.{Greeting}
use Rattle.mongo_establish.specs.KeyCosts.{CostsAsLed}
use Rattle.mongo_establish.specs.Plan.{establishment_plan}
use Rattle.mongo_establish.specs.Script.{HasScript}
use Rattle.mongo_establish.specs.Stopped.{StoppedIn}

-- It went from here to there, by these answers of a helper.
pub record EndsEstablishment (given : List Given) (setup : Setup) (old new : Checkpoint) (result : Result PooledConnection EstablishError) : Type 0 where
  -- what was written and read is exactly a script, the connection is what its replies say, and what was derived and kept is what its login takes
  pub established : IfOk result (Established given setup old new)
  -- a refusal says why it comes, how far the establishment had come, what it left, and what was derived
  pub refused : IfErr result (λ e. StoppedIn given e.handshake_phase setup e.cause.kind old new)
  -- a script's replies at the front of the bytes left are answered by a connection, unless the link fails or memory runs out
  pub complete : (bytes : List ℕ) → old.point.state.left ≡ Some bytes → HasScript setup bytes →
      Unfailed old.point.state new.point.state → IfErr result (λ e. e.cause.kind ≡ OutOfMemory)
  -- bytes left that call for a refusal get just that one, and the link is left as it says; those that lead to an end get none
  pub exact : (granted : List Given) (bytes taken unread : List ℕ) (outcome : Turn Greeting) (commands : List Said) → old.point.state.left ≡ Some bytes → LeadsGiven granted (establishment_plan setup) bytes outcome commands taken unread →
      Unfailed old.point.state new.point.state →
      IfErr result (λ e. (e.cause.kind ≡ OutOfMemory) ⊎ ((granted ≡ given) × (outcome ≡ refuses e.cause.kind) × LeftBy commands unread old.point new.point))
  -- the bytes left say which key was derived, if any, unless the link fails or memory runs out
  pub led : CostsAsLed result setup old.point.state new.point.state old.ledgers new.ledgers
  -- a refusal leaves the entries as they were, unless a login had been accepted
  pub entries : IfErr result (λ e. (e.cause.kind ≡ IncompatibleServer) ⊎ SameEntries old.ledgers new.ledgers)
  pub counts : CountsStay old.point.state new.point.state
