-- A login is the same for all connections and ids.
use Rattle.std.proofs.Common.{ℤ, Option, None, Some, List, inl, inr}
use Rattle.mongo_wire.specs.declared.error.ErrorKind.{ErrorKind}
use Rattle.mongo_wire.specs.Outside.{State}
use Rattle.mongo_command.specs.Helper.{Given}
use Rattle.mongo_command.specs.declared.connection.Connection.{Connection}
use Rattle.mongo_command.specs.Conversation.{Event, Turn, ReachedGiven, StoppedGiven}
use Rattle.mongo_command.specs.Exchange.{point}
use Rattle.mongo_command.proofs.Steps.{reached_more, stopped_more}
use Rattle.mongo_sasl.specs.declared.credential.Credential.{Credential}
use Rattle.mongo_sasl.specs.declared.mechanism.AuthMechanism.{AuthMechanism}
use Rattle.mongo_scram.specs.declared.scram_version.ScramVersion.{ScramVersion}
use Rattle.mongo_scram.specs.Costs.{Checkpoint}
use Rattle.mongo_establish.specs.declared.conversation.Conversation.{Conversation}
use Rattle.mongo_establish.specs.declared.establisher.PendingConnection.{PendingConnection}
use Rattle.mongo_establish.specs.declared.generation.PoolGeneration.TheVariants.{Normal}
use Rattle.mongo_establish.specs.declared.login_state.Nonces.{Nonces}
use Rattle.mongo_establish.specs.declared.options.HandshakerOptions.{HandshakerOptions}
use Rattle.mongo_establish.specs.Setup.{Setup, setup_for}
use Rattle.mongo_establish.specs.Costs.{ScramAccepted, AcceptedCosts, StoppedCosts, LoginCostsOf, LoginCosts, StoppedLoginCostsOf, StoppedLoginCosts}
use Rattle.mongo_establish.specs.Greeting.{Greeting}
use Rattle.mongo_establish.specs.Login.{logging_in}
use Rattle.mongo_establish.specs.Plan.{conversation_plan, mechanism_plan, login_by, login_plan}
use Rattle.mongo_establish.specs.Spoken.{conversation_of, scram_in}

-- what a handshake over a connection knows of it
abbrev pub pending_over : Connection → PendingConnection
pending_over connection = record { id = connection.id; address = connection.address; generation = Normal 0 }

module _ (first second : PendingConnection) (options : HandshakerOptions) (credential : Option Credential) (nonces : Nonces) (first_id second_id : ℤ) where
  abbrev this : Setup
  this = setup_for first options credential nonces first_id

  abbrev that : Setup
  that = setup_for second options credential nonces second_id

  conversation_alike : (conversation : Conversation) (c : Credential) (greeting : Greeting) (past : List Event) (turn : Turn Greeting) → conversation_plan conversation this c greeting past turn → conversation_plan conversation that c greeting past turn
  unfolding conversation_plan
  conversation_alike conversation c greeting past turn h = h

  mechanism_alike : (mechanism : AuthMechanism) (c : Credential) (greeting : Greeting) (past : List Event) (turn : Turn Greeting) → mechanism_plan mechanism this c greeting past turn → mechanism_plan mechanism that c greeting past turn
  unfolding mechanism_plan
  mechanism_alike mechanism c greeting past turn h = (h.0, h.1, elim h.2 [ inl row ↦ inl row | inr on ↦ inr (on.0, conversation_alike h.0 c greeting past turn on.1) ])

  login_alike : (who : Option Credential) (greeting : Greeting) (past : List Event) (turn : Turn Greeting) → login_by who this greeting past turn → login_by who that greeting past turn
  login_alike None greeting past turn h = h
  login_alike (Some c) greeting past turn h = (h.0, h.1, mechanism_alike h.0 c greeting past turn h.2)

  pub reached_alike : {given : List Given} (greeting : Greeting) (old new : State) (before after : ℤ) → ReachedGiven given (login_plan this greeting) greeting (point old before) (point new after) → ReachedGiven given (login_plan that greeting) greeting (point old before) (point new after)
  unfolding login_plan
  reached_alike greeting old new before after r = reached_more (login_plan this greeting) (login_plan that greeting) greeting old new before after (login_alike (logging_in that greeting) greeting) r

  pub stopped_alike : {given : List Given} {kept : Option ErrorKind} (greeting : Greeting) (kind : ErrorKind) (old new : State) (before after : ℤ) → StoppedGiven given (login_plan this greeting) kind (point old before) (point new after) kept → StoppedGiven given (login_plan that greeting) kind (point old before) (point new after) kept
  unfolding login_plan
  stopped_alike greeting kind old new before after s = stopped_more (login_plan this greeting) (login_plan that greeting) kind old new before after (login_alike (logging_in that greeting) greeting) s

  -- ---- and so is what it costs

  scram_costs_alike : (version : ScramVersion) (c : Credential) (greeting : Greeting) (old new : Checkpoint) → ScramAccepted version this c greeting old new → ScramAccepted version that c greeting old new
  scram_costs_alike version c greeting old new h = record { buffer = h.buffer; accepted = h.accepted }

  accepted_costs_alike : (version : Option ScramVersion) (c : Credential) (greeting : Greeting) (old new : Checkpoint) → AcceptedCosts version this c greeting old new → AcceptedCosts version that c greeting old new
  accepted_costs_alike (Some version) c greeting old new h = scram_costs_alike version c greeting old new h
  accepted_costs_alike None c greeting old new h = h

  stopped_costs_alike : (version : Option ScramVersion) (c : Credential) (greeting : Greeting) (kind : ErrorKind) (old new : Checkpoint) → StoppedCosts version this c greeting kind old new → StoppedCosts version that c greeting kind old new
  stopped_costs_alike (Some version) c greeting kind old new h = h
  stopped_costs_alike None c greeting kind old new h = h

  costs_of_alike : (who : Option Credential) (greeting : Greeting) (old new : Checkpoint) → LoginCostsOf who this greeting old new → LoginCostsOf who that greeting old new
  costs_of_alike None greeting old new h = h
  costs_of_alike (Some c) greeting old new h = record { mechanism = h.mechanism; is_mechanism = h.is_mechanism; costs = accepted_costs_alike (scram_in (conversation_of h.mechanism)) c greeting old new h.costs }

  pub costs_alike : (greeting : Greeting) (old new : Checkpoint) → LoginCosts this greeting old new → LoginCosts that greeting old new
  costs_alike greeting old new h = costs_of_alike (logging_in that greeting) greeting old new h

  stopped_costs_of_alike : (who : Option Credential) (greeting : Greeting) (kind : ErrorKind) (old new : Checkpoint) → StoppedLoginCostsOf who this greeting kind old new → StoppedLoginCostsOf who that greeting kind old new
  stopped_costs_of_alike None greeting kind old new h = h
  stopped_costs_of_alike (Some c) greeting kind old new h = record {
    mechanism = h.mechanism;
    is_mechanism = h.is_mechanism;
    costs = elim h.costs [ inl row ↦ inl row | inr stopped ↦ inr (stopped_costs_alike (scram_in (conversation_of h.mechanism)) c greeting kind old new stopped) ];
  }

  pub stopped_login_costs_alike : (greeting : Greeting) (kind : ErrorKind) (old new : Checkpoint) → StoppedLoginCosts this greeting kind old new → StoppedLoginCosts that greeting kind old new
  stopped_login_costs_alike greeting kind old new h = stopped_costs_of_alike (logging_in that greeting) greeting kind old new h
