-- What an establishment answers, by its handshake and what became of the connection after it; where either was stopped, its plan was.
use Rattle.std.proofs.Common.{◌≡◌, ℤ, subst, sym, Option, Result, Ok, Err, IfOk, IfErr, List}
use Rattle.std.proofs.lemmas.Result.{IfErr-weaker}
use Rattle.mongo_wire.specs.declared.error.Error.{Error}
use Rattle.mongo_wire.specs.Outside.{State}
use Rattle.mongo_command.specs.Helper.{Given}
use Rattle.mongo_command.specs.declared.connection.Connection.{Connection}
use Rattle.mongo_command.specs.declared.hello.HelloReply.{HelloReply}
use Rattle.mongo_command.specs.Exchange.{point}
use Rattle.mongo_sasl.specs.declared.credential.Credential.{Credential}
use Rattle.mongo_sasl.specs.Stops.{StoppedWith}
use Rattle.mongo_scram.specs.Costs.{Ledgers, checkpoint}
use Rattle.mongo_establish.specs.declared.establisher.EstablishError.{EstablishError}
use Rattle.mongo_establish.specs.declared.establisher.PendingConnection.{PendingConnection}
use Rattle.mongo_establish.specs.declared.establisher.PooledConnection.{PooledConnection}
use Rattle.mongo_establish.specs.declared.login_state.Nonces.{Nonces}
use Rattle.mongo_establish.specs.declared.options.HandshakerOptions.{HandshakerOptions}
use Rattle.mongo_establish.specs.Setup.{Setup, setup_for, setup_over, start_of}
use Rattle.mongo_establish.specs.Established.{Established, ShookHands, StoppedHandshake}
use Rattle.mongo_establish.specs.Plan.{handshake_plan, establishment_plan}
use Rattle.mongo_establish.specs.Pooled.{phase_at, IsPooled, UnnamedService}
use Rattle.mongo_establish.specs.Stopped.{StoppedIn}
use Rattle.mongo_establish.proofs.Establishment.{shaking_stops, handshake_stops, stopped_whole}
use Rattle.mongo_establish.proofs.Handshaken.{established, stopped_in, unnamed_stopped}

-- a refusal comes where the establishment was stopped
abbrev pub StopsIn : List Given → Setup → State → State → ℤ → Ledgers → Ledgers → EstablishError → Type 0
StopsIn given setup old new after first last e = StoppedIn given e.handshake_phase setup e.cause.kind (start_of setup old first) (checkpoint (point new after) last)

module _ (pending : PendingConnection) (options : HandshakerOptions) (credential : Option Credential) (nonces : Nonces) (id : ℤ) (opened : Connection) (same : opened.address ≡ pending.address) where
  abbrev wanted : Setup
  wanted = setup_for pending options credential nonces id

  abbrev over : Setup
  over = setup_over opened options credential nonces id

  -- after a handshake the connection is ready, or its server named no service
  pub answers_established : {given : List Given} (r : Result PooledConnection EstablishError) (connection : Connection) (old new : State) (after : ℤ) (first last : Ledgers) (reply : HelloReply) → opened.id ≡ pending.id → opened.oidc_token_gen_id ≡ 0 → ShookHands given over opened connection (start_of over old first) (checkpoint (point new after) last) reply
      → IfOk r (IsPooled connection pending.generation) → IfOk r (Established given wanted (start_of wanted old first) (checkpoint (point new after) last))
  answers_established (Ok pooled) connection old new after first last reply number token s p = established pending options credential nonces id opened same connection old new after first last reply pooled number token s p
  answers_established (Err e) connection old new after first last reply number token s p = tt

  pub answers_unnamed : {given : List Given} (r : Result PooledConnection EstablishError) (connection : Connection) (old new : State) (after : ℤ) (first last : Ledgers) (reply : HelloReply) → ShookHands given over opened connection (start_of over old first) (checkpoint (point new after) last) reply → IfErr r (UnnamedService connection pending.generation)
      → IfErr r (StopsIn given wanted old new after first last)
  answers_unnamed (Ok pooled) connection old new after first last reply s u = tt
  answers_unnamed (Err e) connection old new after first last reply s u = unnamed_stopped pending options credential nonces id opened same connection old new after first last reply e s u

  -- the handshake was stopped
  pub answers_stopped : {given : List Given} (e : EstablishError) (cause : Error) (connection : Connection) (old new : State) (after : ℤ) (first last : Ledgers) → e.cause ≡ cause → e.handshake_phase ≡ phase_at connection.stream_description pending.generation
      → StoppedHandshake given over opened connection cause.kind (start_of over old first) (checkpoint (point new after) last) → StopsIn given wanted old new after first last e
  answers_stopped {given = given} e cause connection old new after first last is phase s =
      stopped_in pending options credential nonces id opened same e.handshake_phase connection e.cause.kind old new after first last phase (subst (λ x. StoppedHandshake given over opened connection x.kind (start_of over old first) (checkpoint (point new after) last)) (sym is) s)

-- ---- whatever part was stopped, the plan was

pub shaking_stopped : (given : List Given) {T : Type 0} (r : Result T Error) (setup : Setup) (opened connection : Connection) (old new : State) (after : ℤ) (first last : Ledgers) → IfErr r (λ e. StoppedHandshake given setup opened connection e.kind (start_of setup old first) (checkpoint (point new after) last))
    → IfErr r (λ e. StoppedWith given (handshake_plan setup) e.kind (point old setup.first_id) (point new after))
shaking_stopped given r setup opened connection old new after first last = IfErr-weaker r _ _ (λ e. shaking_stops setup opened connection e.kind old new after first last)

pub handshake_stopped : (given : List Given) {T : Type 0} (r : Result T Error) (setup : Setup) (old new : State) (after : ℤ) → IfErr r (λ e. StoppedWith given (handshake_plan setup) e.kind (point old setup.first_id) (point new after)) → IfErr r (λ e. StoppedWith given (establishment_plan setup) e.kind (point old setup.first_id) (point new after))
handshake_stopped given r setup old new after = IfErr-weaker r _ _ (λ e. handshake_stops setup e.kind old new after)

pub establishment_stopped : (given : List Given) {T : Type 0} (r : Result T EstablishError) (setup : Setup) (old new : State) (after : ℤ) (first last : Ledgers) → IfErr r (StopsIn given setup old new after first last) → IfErr r (λ e. StoppedWith given (establishment_plan setup) e.cause.kind (point old setup.first_id) (point new after))
establishment_stopped given r setup old new after first last = IfErr-weaker r _ _ (λ e. stopped_whole e.handshake_phase setup e.cause.kind old new after first last)
