-- What an establishment over the replies of an authentication comes to: the script, and nothing else.
use Rattle.std.proofs.Common.{◌≡◌, ◌⊎◌, ℕ, ℤ, pos, ◌∙◌, sym, subst, inl, inr, true, false, IsTrue, Option, None, Some, Result, Ok, Err, IfOk, IfErr, List, [], arith}
use Rattle.std.specs.Io.KnownBytes.{Appends}
use Rattle.mongo_wire.specs.Outside.{State, Rose}
use Rattle.mongo_wire.specs.declared.error.ErrorKind.{ErrorKind}
use Rattle.mongo_wire.specs.declared.error.ErrorKind.TheVariants.{IncompatibleServer, OutOfMemory}
use Rattle.mongo_command.specs.Helper.{Given}
use Rattle.mongo_command.specs.Exchange.{point}
use Rattle.mongo_scram.proofs.Derived.{costs_nothing}
use Rattle.mongo_scram.specs.declared.cache.SaltedCache.{SaltedCache}
use Rattle.mongo_scram.specs.declared.cache.SaltedKey.{SaltedKey}
use Rattle.mongo_scram.specs.Cache.{entries_of, Adds}
use Rattle.mongo_scram.specs.Commands.{is_scram}
use Rattle.mongo_scram.specs.Costs.{Ledgers, ledgers, SameEntries, checkpoint}
use Rattle.mongo_scram.specs.Entry.{salted_of}
use Rattle.mongo_establish.specs.declared.establisher.EstablishError.{EstablishError}
use Rattle.mongo_establish.specs.declared.establisher.PendingConnection.{PendingConnection}
use Rattle.mongo_establish.specs.declared.establisher.PooledConnection.{PooledConnection}
use Rattle.mongo_establish.specs.declared.generation.PoolGeneration.TheVariants.{Normal}
use Rattle.mongo_establish.specs.declared.options.HandshakerOptions.{HandshakerOptions}
use Rattle.mongo_establish.specs.Setup.{Setup, setup_for, start_of}
use Rattle.mongo_establish.specs.Derivation.{LeadsToKey}
use Rattle.mongo_establish.specs.Established.{Established}
use Rattle.mongo_establish.specs.KeyCosts.{StoresKey, AcceptedKeyCosts, CostsOver}
use Rattle.mongo_establish.specs.Script.{HasScript}
use Rattle.mongo_establish.proofs.Counting.{CostsSome, taken_as_led}
use Rattle.mongo_establish.proofs.Establishment.{one_script}
use Rattle.mongo_server.specs.Authentication.{Authentication, close_of}
use Rattle.mongo_generate.specs.declared.user_login.UserLogin.{UserLogin}
use Rattle.mongo_generate.specs.Acceptance.{IsAcceptedAs, AreAuthenticationReplies}
use Rattle.mongo_generate.specs.Login.{IsAuthenticationClient, KeepsEntries, key_of}
use Rattle.mongo_generate.specs.Options.{handshaker_options}
use Rattle.mongo_generate.specs.Replies.{AreServerReplies}
use Rattle.mongo_generate.specs.Written.{CarriesPayloadLast, CarriesAnyLast}
use Rattle.mongo_generate.proofs.Sizes.{setup_by_client}
use Rattle.mongo_generate.proofs.Accepted.{version_in, script_carries}
use Rattle.mongo_generate.proofs.Meeting.{has_script, carries, sent_is, leads_to_key}

-- the link doesn't fail
pub no_fault : Rose 0 0 → ⊥
no_fault rose = omega arith

-- where only memory can be wanting, nothing else is refused
pub never_refused : (ended : Result PooledConnection EstablishError) → IfErr ended (λ e. e.cause.kind ≡ OutOfMemory) → IsAcceptedAs ended false → ⊥
never_refused (Ok pooled) memory is = is
never_refused (Err e) memory is = is memory

-- what is written is the script's
sent_by : {given : List Given} (setup : Setup) (bytes : List ℕ) (old new : State) (after : ℤ) (first last : Ledgers) (pooled : PooledConnection) (h : HasScript setup bytes) → Established given setup (start_of setup old first) (checkpoint (point new after) last) pooled → old.left ≡ Some bytes → Appends old.written new.written h.sent
sent_by setup bytes old new after first last pooled h e is =
    let s = e.scripted in
    let t = s.taken bytes is in
    let k : HasScript setup bytes = record { script = e.script; is_script = s.is_script; sent = s.sent; is_written = s.is_written; taken = t.taken; rest = t.rest; joined = t.joined; is_taken = t.is_taken } in
    subst (Appends old.written new.written) (one_script setup bytes k h).sent s.written

module _ (pending : PendingConnection) (options : HandshakerOptions) (first_id : ℤ) (x : Authentication) (login : UserLogin) (bytes : List ℕ) (logs : IsAuthenticationClient x login) (heard : AreAuthenticationReplies x bytes) (pool : pending.generation ≡ Normal 0) (usual : options ≡ handshaker_options) (first : first_id ≡ pos 0) where
  abbrev setup : Setup
  setup = setup_for pending options (Some login.credential) login.inputs.nonces first_id

  same : setup ≡ setup_by_client pending x login.inputs.nonces
  same = λ i. setup_for pending (usual i) (Some (logs.credential_is i)) login.inputs.nonces (first i)

  abbrev script_for : HasScript (setup_by_client pending x login.inputs.nonces) bytes
  script_for = has_script pending x login.inputs.nonces bytes logs.possible logs.nonce_is pool heard

  -- there is a script, so only memory can be wanting
  pub has_its_script : HasScript setup bytes
  has_its_script = subst (λ a. HasScript a bytes) (sym same) script_for

  -- what was written carries the client's last message
  pub writes_close : {given : List Given} (old new : State) (after : ℤ) (earlier later : Ledgers) (pooled : PooledConnection) (written : List ℕ) → Established given setup (start_of setup old earlier) (checkpoint (point new after) later) pooled → old.left ≡ Some bytes → old.written ≡ Some [] → new.written ≡ Some written → CarriesPayloadLast (close_of x) written
  writes_close {given = given} old new after earlier later pooled written e is nothing all =
      let there = subst (λ a. Established given a (start_of a old earlier) (checkpoint (point new after) later) pooled) same e in
      let sent = sent_by (setup_by_client pending x login.inputs.nonces) bytes old new after earlier later pooled script_for there is in
      let grown : Appends (Some []) (Some written) script_for.sent = subst (λ w. Appends w (Some written) script_for.sent) nothing (subst (λ w. Appends old.written w script_for.sent) all sent) in
      carries pending x login.inputs.nonces bytes logs.possible logs.nonce_is pool heard written (grown ∙ sent_is pending x login.inputs.nonces bytes logs.possible logs.nonce_is pool heard)

  pub accepted_writes : (given : List Given) (ended : Result PooledConnection EstablishError) (old new : State) (after : ℤ) (earlier later : Ledgers) (written : List ℕ) → IsAcceptedAs ended true → IfOk ended (Established given setup (start_of setup old earlier) (checkpoint (point new after) later)) → old.left ≡ Some bytes → old.written ≡ Some [] → new.written ≡ Some written → CarriesPayloadLast (close_of x) written
  accepted_writes given (Ok pooled) old new after earlier later written is e told nothing all = writes_close old new after earlier later pooled written e told nothing all
  accepted_writes given (Err e) old new after earlier later written is none told nothing all = absurd is

  -- and its key was taken
  pub takes_key : (before after : Ledgers) (pooled : PooledConnection) → CostsOver (Ok pooled) setup bytes before after → StoresKey (key_of x) before after
  takes_key before after pooled costs =
      taken_as_led setup bytes (λ key. AcceptedKeyCosts key before after) (Some (key_of x)) costs
      (subst (λ a. LeadsToKey a bytes (Some (key_of x))) (sym same) (leads_to_key pending x login.inputs.nonces bytes logs.possible logs.nonce_is pool heard))

  pub accepted_takes : (ended : Result PooledConnection EstablishError) (before after : Ledgers) → IsAcceptedAs ended true → CostsOver ended setup bytes before after → StoresKey (key_of x) before after
  accepted_takes (Ok pooled) before after is costs = takes_key before after pooled costs
  accepted_takes (Err e) before after is costs = absurd is

-- ---- whatever comes of it

-- what a connection's establishment wrote over a server's replies is two frames, and the second carries a payload, whoever the server's user is
pub accepted_carries : (given : List Given) (pending : PendingConnection) (options : HandshakerOptions) (first_id : ℤ) (login : UserLogin) (bytes : List ℕ) → AreServerReplies bytes → options ≡ handshaker_options → IsTrue (is_scram login.credential.mechanism) → login.credential.source ≡ None
    → (ended : Result PooledConnection EstablishError) (old new : State) (after : ℤ) (earlier later : Ledgers) (written : List ℕ) → IsAcceptedAs ended true → IfOk ended (Established given (setup_for pending options (Some login.credential) login.inputs.nonces first_id) (checkpoint (point old first_id) earlier) (checkpoint (point new after) later)) → old.left ≡ Some bytes → old.written ≡ Some [] → new.written ≡ Some written → CarriesAnyLast written
accepted_carries given pending options first_id login bytes (server_first, server_final, replies) usual scram of_admin (Ok pooled) old new after earlier later written is e told nothing all =
    let there = subst (λ o. Established given (setup_for pending o (Some login.credential) login.inputs.nonces first_id) (checkpoint (point old first_id) earlier) (checkpoint (point new after) later) pooled) usual e in
    let s = there.scripted in
    let t = s.taken bytes told in
    let (version, given) = version_in login.credential.mechanism scram in
    let grown : Appends (Some []) (Some written) s.sent = subst (λ w. Appends w (Some written) s.sent) nothing (subst (λ w. Appends old.written w s.sent) all s.written) in
    subst CarriesAnyLast (sym grown) (script_carries pending login.credential version given of_admin login.inputs.nonces first_id server_first server_final bytes replies there.script s.sent t.taken t.rest s.is_script s.is_written t.joined t.is_taken)
accepted_carries given pending options first_id login bytes replies usual scram of_admin (Err e) old new after earlier later written is none told nothing all = absurd is

abbrev AddsOne : Ledgers → Ledgers → Type 0
AddsOne first last = (key : SaltedKey) × Adds (entries_of first.cache) (entries_of last.cache) (key, salted_of key)

accepted_keeps : (key : Option SaltedKey) (first last : Ledgers) → AcceptedKeyCosts key first last → SameEntries first last ⊎ AddsOne first last
accepted_keeps None first last takes = inl takes.entries
accepted_keeps (Some key) first last takes = elim takes.others [ inl same ↦ inl same | inr adds ↦ inr (key, adds) ]

not_both : (kind : ErrorKind) → kind ≡ OutOfMemory → kind ≡ IncompatibleServer → ⊥
not_both kind memory incompatible = cc

-- a refusal leaves the entries; one that comes after the login had been accepted has its key put in
refused_keeps : (e : EstablishError) (request : Setup) (bytes : List ℕ) (first last : Ledgers) → CostsOver {T = PooledConnection} (Err e) request bytes first last → e.cause.kind ≡ IncompatibleServer → SameEntries first last ⊎ AddsOne first last
refused_keeps e request bytes first last costs incompatible =
    elim costs [
      | inl memory ↦ absurd (not_both e.cause.kind memory incompatible)
      | inr other ↦ elim other [ inl unnamed ↦ accepted_keeps unnamed.led.key first last unnamed.led.taken | inr refused ↦ absurd (refused.other incompatible) ]
    ]

entries_keep : (ended : Result PooledConnection EstablishError) (request : Setup) (bytes : List ℕ) (first last : Ledgers) → CostsOver ended request bytes first last → IfErr ended (λ e. (e.cause.kind ≡ IncompatibleServer) ⊎ SameEntries first last) → SameEntries first last ⊎ AddsOne first last
entries_keep (Ok pooled) request bytes first last costs entries = accepted_keeps costs.key first last costs.taken
entries_keep (Err e) request bytes first last costs entries = elim entries [ inl incompatible ↦ refused_keeps e request bytes first last costs incompatible | inr same ↦ inl same ]

pub keeps_entries : (ended : Result PooledConnection EstablishError) (request : Setup) (bytes : List ℕ) (first last : Ledgers) → CostsSome first last → CostsOver ended request bytes first last
    → IfErr ended (λ e. (e.cause.kind ≡ IncompatibleServer) ⊎ SameEntries first last) → KeepsEntries first last
keeps_entries ended request bytes first last some over entries = record { rounds = some.rounds; counts = some.counts; entries = entries_keep ended request bytes first last over entries }

-- where nobody says hello
pub keeps_still : (steps : ℕ) (cache : SaltedCache) → KeepsEntries (ledgers steps cache) (ledgers steps cache)
keeps_still steps cache = let nothing = costs_nothing steps cache in record { rounds = 0; counts = nothing.counts; entries = inl nothing.entries }
