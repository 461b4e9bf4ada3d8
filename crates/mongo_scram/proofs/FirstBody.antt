-- The body of a `saslStart` with the database named behind it, and the command of it.
use Rattle.std.proofs.Common.{◌≡◌, ◌≢◌, ℕ, ◌+◌, ◌^◌, ◌<◌, ◌≤◌, true, false, Bool, suc, Option, Ok, Err, List, ◌++◌, length, flat_map, refl, sym, ap, ◌∙◌, subst, arith, Contains, length-append, append-nil}
use Rattle.std.proofs.lemmas.Grind.{flat_map-append}
use Rattle.mongo_bson.specs.Framed.{element_bytes, enclosed, maximum_length}
use Rattle.mongo_bson.specs.Document.{Element, spell}
use Rattle.mongo_bson.specs.Refusals.{AppendRefuses}
use Rattle.mongo_bson.specs.declared.fault.BsonFault.{BsonFault}
use Rattle.mongo_bson.specs.declared.fault.BsonFault.TheVariants.{KeyHasZero, TooLong, OutOfMemory as NoMemory}
use Rattle.mongo_bson.proofs.Enclosed.{length-enclosed, element_bytes-enclosed}
use Rattle.mongo_wire.specs.Error.{kind_of_fault}
use Rattle.mongo_wire.proofs.Arrays.{without_zero}
use Rattle.mongo_command.specs.declared.command.Command.{Command}
use Rattle.mongo_command.specs.declared.server_api.ServerApi.{ServerApi}
use Rattle.mongo_command.specs.Command.{command_of}
use Rattle.mongo_command.specs.Exchange.{DocumentRefused}
use Rattle.mongo_command.specs.Literal.{text_element, document_of}
use Rattle.mongo_sasl.specs.declared.mechanism.AuthMechanism.{AuthMechanism}
use Rattle.mongo_sasl.specs.declared.sasl_start.SaslStart.{SaslStart}
use Rattle.mongo_sasl.specs.Commands.{start_elements, start_body, start_command}
use Rattle.mongo_sasl.specs.Keys.{sasl_start_key}
use Rattle.mongo_scram.specs.declared.scram_version.ScramVersion.{ScramVersion}
use Rattle.mongo_scram.specs.Commands.{mechanism_of, login_db_key, db_elements, first_body, first_command}

abbrev db_bytes : List ℕ → List ℕ
db_bytes source = spell (text_element login_db_key source)

-- the elements' bytes with the database named behind them
spelled : (elements : List Element) (source : List ℕ) → flat_map spell elements ++ db_bytes source ≡ flat_map spell (elements ++ db_elements true source)
spelled elements source =
    ap (λ more. flat_map spell elements ++ more) (sym (append-nil (db_bytes source))) ∙ sym (flat_map-append spell elements (db_elements true source))

-- no room for the database is no room for the body
pub db_too_long : (version : ScramVersion) (source message old : List ℕ) → old ≡ start_body (mechanism_of version) message → maximum_length < length old + length (db_bytes source) → maximum_length < length (first_body version true source message)
db_too_long version source message old is long =
    let elements = start_elements (mechanism_of version) message in
    omega (arith, long, ap length is, length-enclosed (flat_map spell elements), length-enclosed (flat_map spell (elements ++ db_elements true source)), ap length (spelled elements source), length-append (flat_map spell elements) (db_bytes source))

-- the database, put behind a body that has room for it
pub db_added : (version : ScramVersion) (source message old new : List ℕ) → old ≡ start_body (mechanism_of version) message → length old ≤ maximum_length → new ≡ enclosed (element_bytes old ++ db_bytes source) → new ≡ first_body version true source message
db_added version source message old new is short added =
    let elements = start_elements (mechanism_of version) message in
    let spelt = flat_map spell elements in
    let fits : length spelt + 5 < 2 ^ 32 = omega (arith, short, ap length is, length-enclosed spelt) in
    added
    ∙ ap (λ body. enclosed (body ++ db_bytes source)) (ap element_bytes is ∙ element_bytes-enclosed spelt fits)
    ∙ ap enclosed (spelled elements source)

-- ---- the command

plain_db : Contains login_db_key 0 → ⊥
plain_db = without_zero login_db_key login_db_key refl (not_zero 99, (not_zero 97, tt))
  where
    not_zero : (n : ℕ) → suc n ≢ 0
    not_zero n is = absurd (omega (arith, is))

has_room : (m n : ℕ) → (maximum_length < m + n → ⊥) → m ≤ maximum_length
has_room m n room = omega (arith, room)

-- without the database the body is the start's
without_db : (version : ScramVersion) (source message : List ℕ) → start_body (mechanism_of version) message ≡ first_body version false source message
without_db version source message = ap document_of (sym (append-nil (start_elements (mechanism_of version) message)))

abbrev started : List ℕ → AuthMechanism → List ℕ → Option ServerApi → SaslStart
started source mechanism payload api = record { source = source; mechanism = mechanism; payload = payload; server_api = api }

-- the start that carries the message
abbrev pub step : ScramVersion → List ℕ → List ℕ → Option ServerApi → SaslStart
step version source message api = record { source = source; mechanism = mechanism_of version; payload = message; server_api = api }

pub same_step : (version : ScramVersion) (a b c d : List ℕ) (m : AuthMechanism) (api : Option ServerApi) → a ≡ b → m ≡ mechanism_of version → c ≡ d → started a m c api ≡ step version b d api
same_step version a b c d m api p q r = λ i. started (p i) (q i) (r i) api

abbrev sent : List ℕ → List ℕ → Option ServerApi → Command
sent source body api = command_of sasl_start_key source body api

pub start_sent : (version : ScramVersion) (source message : List ℕ) (include_db : Bool) (api : Option ServerApi) (start : SaslStart) (command : Command) → start ≡ step version source message api → command ≡ start_command start → include_db ≡ false → command ≡ first_command version include_db source message api
start_sent version source message include_db api start command is built plain =
    built
    ∙ ap start_command is
    ∙ ap (λ body. sent source body api) (without_db version source message)
    ∙ ap (λ db. first_command version db source message api) (sym plain)

-- the start with the database put behind it
pub db_sent : (version : ScramVersion) (source text message : List ℕ) (include_db : Bool) (api : Option ServerApi) (start : SaslStart) (command named : Command) (new : List ℕ) → text ≡ source → start ≡ step version source message api → command ≡ start_command start → include_db ≡ true
    → ((Contains login_db_key 0 → ⊥) × (maximum_length < length command.body + length (db_bytes text)) → ⊥)
    → new ≡ enclosed (element_bytes command.body ++ db_bytes text) → named ≡ record command { body = new } → named ≡ first_command version include_db source message api
db_sent version source text message include_db api start command named new said is built named_db room added is_named =
    let old : command.body ≡ start_body (mechanism_of version) message = ap (λ (c : Command). c.body) (built ∙ ap start_command is) in
    let short : length command.body ≤ maximum_length = has_room (length command.body) (length (db_bytes text)) (λ long. room (plain_db, long)) in
    is_named
    ∙ ap (λ (c : Command). let k : Command = record c { body = new } in k) (built ∙ ap start_command is)
    ∙ ap (λ body. sent source body api) (db_added version source message command.body new old short (subst (λ t. new ≡ enclosed (element_bytes command.body ++ db_bytes t)) said added))
    ∙ ap (λ db. first_command version db source message api) (sym named_db)

-- what was put had no fault
pub ok_is_no_error : {T E : Type 0} (t : T) (e : E) → Ok t ≡ Err e → ⊥
ok_is_no_error t e is = absurd (cc)

-- why the database isn't put behind it
pub db_refused : (version : ScramVersion) (source text message : List ℕ) (include_db : Bool) (api : Option ServerApi) (start : SaslStart) (command : Command) → text ≡ source → start ≡ step version source message api → command ≡ start_command start → include_db ≡ true
    → (fault : BsonFault) → AppendRefuses fault → (fault ≡ KeyHasZero → Contains login_db_key 0) → (fault ≡ TooLong → maximum_length < length command.body + length (db_bytes text))
    → DocumentRefused (kind_of_fault fault) (first_body version include_db source message)
db_refused version source text message include_db api start command said is built named_db KeyHasZero refuses holds long = absurd (plain_db (holds refl))
db_refused version source text message include_db api start command said is built named_db TooLong refuses holds long =
    let old : command.body ≡ start_body (mechanism_of version) message = ap (λ (c : Command). c.body) (built ∙ ap start_command is) in
    let here : maximum_length < length command.body + length (db_bytes source) = subst (λ t. maximum_length < length command.body + length (db_bytes t)) said (long refl) in
    subst (λ db. maximum_length < length (first_body version db source message)) (sym named_db) (db_too_long version source message command.body old here)
db_refused version source text message include_db api start command said is built named_db NoMemory refuses holds long = tt
db_refused version source text message include_db api start command said is built named_db fault refuses holds long = absurd refuses
