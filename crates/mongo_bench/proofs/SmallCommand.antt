-- The document of a command that carries little is far shorter than the greatest one.
use Rattle.std.proofs.Common.{◌≡◌, ℕ, ℤ, ◌+◌, ◌-◌, ◌≤◌, Bool, true, false, Option, None, Some, IfSome, List, [], ◌∷◌, ◌++◌, length, length-append, drop, codes, refl, if◌then◌else◌, nat_lt, arith}
use Rattle.std.specs.Option.{option_map, option_and_then}
use Rattle.std.specs.List.{flat_map}
use Rattle.std.proofs.lemmas.List.{length-take, length-drop}
use Rattle.mongo_bson.specs.Document.{Element, spell}
use Rattle.mongo_bson.specs.Framed.{element_bytes, maximum_length}
use Rattle.mongo_bson.proofs.Enclosed.{length-enclosed}
use Rattle.mongo_wire.specs.declared.error.ErrorKind.{ErrorKind}
use Rattle.mongo_wire.specs.declared.error.ErrorKind.TheVariants.{InvalidArgument, OutOfMemory}
use Rattle.mongo_wire.specs.declared.fault.ArgumentFault.TheVariants.{Bson}
use Rattle.mongo_bson.specs.declared.fault.BsonFault.TheVariants.{TooLong}
use Rattle.mongo_command.specs.Literal.{text_element, document_element, int64_element, boolean_element}
use Rattle.mongo_command.specs.Keys.{db_key, api_version_key, api_strict_key, api_deprecation_errors_key, cluster_time_key, read_concern_key, write_concern_key}
use Rattle.mongo_command.specs.Command.{present, timestamp_bytes, timestamp_element, read_concern_document, sent_concern, carried_elements, version_text, command_document}
use Rattle.mongo_command.specs.Exchange.{DocumentRefused}
use Rattle.mongo_command.specs.declared.command.Command.{Command}
use Rattle.mongo_command.specs.declared.server_api.ServerApi.{ServerApi}
use Rattle.mongo_command.specs.declared.server_api.ServerApiVersion.{ServerApiVersion}
use Rattle.mongo_command.specs.declared.server_api.ServerApiVersion.TheVariants.{V1}
use Rattle.mongo_command.specs.declared.read_concern.ReadConcern.{ReadConcern}
use Rattle.mongo_command.specs.declared.generic_arguments.GenericArguments.{GenericArguments}
use Rattle.mongo_bench.specs.Built.{IsShort, CarriesLittle, IsSmall}

-- how many bytes elements take
abbrev size : List Element → ℕ
size es = length (flat_map spell es)

-- an element that may be there makes what follows it longer by no more than it takes
present_size : {A : Type 0} (says : A → Element) (o : Option A) (most : ℕ) (rest : List Element) → IfSome o (λ x. length (spell (says x)) ≤ most) → size (present says o ++ rest) ≤ most + size rest
present_size says None most rest short = omega arith
present_size says (Some x) most rest short = omega (arith, short, length-append (spell (says x)) (flat_map spell rest))

document_size : (key : List ℕ) (o : Option (List ℕ)) (most : ℕ) → IfSome o (λ d. length d ≤ most) → IfSome o (λ d. length (spell (document_element key d)) ≤ 2 + length key + most)
document_size key None most short = tt
document_size key (Some d) most short = omega (arith, short, length-append key (0 ∷ d))

text_size : (key : List ℕ) (o : Option (List ℕ)) → IfSome o IsShort → IfSome o (λ t. length (spell (text_element key t)) ≤ 107 + length key)
text_size key None short = tt
text_size key (Some t) short = omega (arith, short, length-append key (0 ∷ (text_element key t).value), length-append t (0 ∷ []))

boolean_size : (key : List ℕ) (o : Option Bool) → IfSome o (λ b. length (spell (boolean_element key b)) ≤ 3 + length key)
boolean_size key None = tt
boolean_size key (Some b) = omega (arith, length-append key (0 ∷ (boolean_element key b).value))

number_size : (key : List ℕ) (o : Option ℤ) → IfSome o (λ n. length (spell (int64_element key n)) ≤ 10 + length key)
number_size key None = tt
number_size key (Some n) = omega (arith, length-append key (0 ∷ (int64_element key n).value))

time_size : (key : List ℕ) (o : Option (ℕ × ℕ)) → IfSome (option_map timestamp_bytes o) (λ b. length (spell (timestamp_element key b)) ≤ 10 + length key)
time_size key None = tt
time_size key (Some t) = omega (arith, length-append key (0 ∷ timestamp_bytes t))

version_is_short : (o : Option ServerApi) → IfSome (option_map (λ api. version_text api.version) o) IsShort
version_is_short None = tt
version_is_short (Some api) = version_short api.version
  where
    version_short : (v : ServerApiVersion) → IsShort (version_text v)
    version_short V1 = omega arith

concern_size : (c : ReadConcern) → IfSome c.level IsShort → length (read_concern_document c) ≤ 200
concern_size c level =
    let times = present (timestamp_element (codes "afterClusterTime")) (option_map timestamp_bytes c.after_cluster_time) ++ [] in
    let at = present (timestamp_element (codes "atClusterTime")) (option_map timestamp_bytes c.at_cluster_time) ++ times in
    omega (
      arith,
      length-enclosed (flat_map spell (present (text_element (codes "level")) c.level ++ at)),
      present_size (text_element (codes "level")) c.level 112 at (text_size (codes "level") c.level level),
      present_size (timestamp_element (codes "atClusterTime")) (option_map timestamp_bytes c.at_cluster_time) 23 times (time_size (codes "atClusterTime") c.at_cluster_time),
      present_size (timestamp_element (codes "afterClusterTime")) (option_map timestamp_bytes c.after_cluster_time) 26 [] (time_size (codes "afterClusterTime") c.after_cluster_time),
    )

concern_is_short : (o : Option ReadConcern) → IfSome o (λ c. IfSome c.level IsShort) → IfSome (option_map read_concern_document o) (λ d. length d ≤ 200)
concern_is_short None short = tt
concern_is_short (Some c) short = concern_size c short

sent_if : (test : Bool) (d : List ℕ) → IsShort d → IfSome (if test then Some d else None) IsShort
sent_if true d short = short
sent_if false d short = tt

sent_is_short : (o : Option (List ℕ)) → IfSome o IsShort → IfSome (sent_concern o) IsShort
sent_is_short None short = tt
sent_is_short (Some d) short = sent_if (nat_lt 5 (length d)) d short

carried_size : (a : GenericArguments) → CarriesLittle a → size (carried_elements a) ≤ 2_000
carried_size a c =
    let token = present (document_element (codes "recoveryToken")) a.recovery_token ++ [] in
    let write = present (document_element write_concern_key) (sent_concern a.write_concern) ++ token in
    let read = present (document_element read_concern_key) (option_map read_concern_document a.read_concern) ++ write in
    let autocommit = present (boolean_element (codes "autocommit")) a.autocommit ++ read in
    let start = present (boolean_element (codes "startTransaction")) a.start_transaction ++ autocommit in
    let number = present (int64_element (codes "txnNumber")) a.txn_number ++ start in
    let preference = present (document_element (codes "$readPreference")) a.read_preference ++ number in
    let deprecation = present (boolean_element api_deprecation_errors_key) (option_and_then (λ api. api.deprecation_errors) a.server_api) ++ preference in
    let strict = present (boolean_element api_strict_key) (option_and_then (λ api. api.strict) a.server_api) ++ deprecation in
    let version = present (text_element api_version_key) (option_map (λ api. version_text api.version) a.server_api) ++ strict in
    let time = present (document_element cluster_time_key) a.cluster_time ++ version in
    let first : size (carried_elements a) ≤ 106 + size time = present_size (document_element (codes "lsid")) a.lsid _ time (document_size (codes "lsid") a.lsid 100 c.lsid) in
    let last : size token ≤ 115 = present_size (document_element (codes "recoveryToken")) a.recovery_token _ [] (document_size (codes "recoveryToken") a.recovery_token 100 c.recovery_token) in
    omega (
      arith,
      first,
      last,
      present_size (document_element cluster_time_key) a.cluster_time _ version (document_size cluster_time_key a.cluster_time 100 c.cluster_time),
      present_size (text_element api_version_key) (option_map (λ api. version_text api.version) a.server_api) _ strict (text_size api_version_key _ (version_is_short a.server_api)),
      present_size (boolean_element api_strict_key) (option_and_then (λ api. api.strict) a.server_api) _ deprecation (boolean_size api_strict_key _),
      present_size (boolean_element api_deprecation_errors_key) (option_and_then (λ api. api.deprecation_errors) a.server_api) _ preference (boolean_size api_deprecation_errors_key _),
      present_size (document_element (codes "$readPreference")) a.read_preference _ number (document_size (codes "$readPreference") a.read_preference 100 c.read_preference),
      present_size (int64_element (codes "txnNumber")) a.txn_number _ start (number_size (codes "txnNumber") a.txn_number),
      present_size (boolean_element (codes "startTransaction")) a.start_transaction _ autocommit (boolean_size (codes "startTransaction") a.start_transaction),
      present_size (boolean_element (codes "autocommit")) a.autocommit _ read (boolean_size (codes "autocommit") a.autocommit),
      present_size (document_element read_concern_key) (option_map read_concern_document a.read_concern) _ write (document_size read_concern_key (option_map read_concern_document a.read_concern) 200 (concern_is_short a.read_concern c.level)),
      present_size (document_element write_concern_key) (sent_concern a.write_concern) _ token (document_size write_concern_key (sent_concern a.write_concern) 100 (sent_is_short a.write_concern c.write_concern)),
    )

small_within : (c : Command) → IsSmall c → length (command_document c) ≤ maximum_length
small_within c small =
    let carried = flat_map spell (carried_elements c.arguments) in
    let first = spell (text_element db_key c.target_db) in
    let body = element_bytes c.body in
    let named = text_element db_key c.target_db in
    omega (
      arith,
      length-enclosed (body ++ (first ++ carried)),
      length-append body (first ++ carried),
      length-append first carried,
      length-append db_key (0 ∷ named.value),
      length-append c.target_db (0 ∷ []),
      length-take (length c.body - 5) (drop 4 c.body),
      length-drop 4 c.body,
      carried_size c.arguments small.carries,
      small.body,
      small.db,
    )

-- so its message is made, but for want of memory
pub document_wants_memory : (kind : ErrorKind) (c : Command) → IsSmall c → DocumentRefused kind (command_document c) → kind ≡ OutOfMemory
document_wants_memory (InvalidArgument (Bson TooLong)) c small refused = absurd (omega (arith, refused, small_within c small))
document_wants_memory OutOfMemory c small refused = refl
document_wants_memory kind c small refused = absurd refused
