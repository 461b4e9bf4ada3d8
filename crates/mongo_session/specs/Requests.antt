-- What a client asks for: a command, by the first key of its document.
use Rattle.std.specs.Prelude.{◌≡◌, ℕ, ◌==◌, ◌⊎◌, ◌↔◌, ◌||◌, Bool, true, false, Option, None, Some, List, [], length, drop, bytes_eq, if◌then◌else◌, IsTrue}
use Rattle.std.specs.List.{position_or_len, after_first}
use Rattle.mongo_bson.specs.Framed.{element_bytes}
use Rattle.mongo_bson.specs.Document.{Element}
use Rattle.mongo_bson.specs.Find.{IsFirstOf, BeginsWithKey}
use Rattle.mongo_command.specs.HelloCommand.{hello_command_name, legacy_hello_command_name}
use Rattle.mongo_command.specs.Keys.{is_master_key, sasl_supported_mechs_key, speculative_authenticate_key}
use Rattle.mongo_scram.specs.declared.scram_version.ScramVersion.{ScramVersion}
use Rattle.mongo_server.specs.Announced.{conversation_id}
use Rattle.mongo_session.specs.CommandNames.{ping_command_name, build_info_command_name, lowercase_build_info_command_name, end_sessions_command_name}
use Rattle.mongo_session.specs.ServeSettings.{version_named}
use Rattle.mongo_session.specs.Values.{HasInside, HasInt32, HasText, HasTrue, HoldsIfAny}
use Rattle.mongo_session.specs.declared.request.Request.{Request}
use Rattle.mongo_session.specs.declared.request.Request.TheVariants.{Hello as HelloRequest, SaslStart as Starting, SaslContinue as Continuing, Ping, BuildInfo, EndSessions, Other}
use Rattle.mongo_session.specs.declared.request.Hello.{Hello}
use Rattle.mongo_session.specs.declared.request.StartRequest.{StartRequest}
use Rattle.mongo_session.specs.declared.request.ContinueRequest.{ContinueRequest}
use Rattle.mongo_sasl.specs.Keys.{conversation_id_key, mechanism_key, options_key, payload_key, sasl_continue_key, sasl_start_key, skip_empty_exchange_key}

-- the document's command
abbrev pub IsCommandNamed : List ℕ → List ℕ → Type 0
IsCommandNamed document name = BeginsWithKey (element_bytes document) name

-- ---- the parts of a login's command

-- its `payload`: a binary of these bytes
pub record HasPayload (document payload : List ℕ) : Type 0 where
  pub element : Element
  pub first : IsFirstOf (element_bytes document) payload_key element
  pub binary : element.kind ≡ 0x05
  pub payload_is : payload ≡ drop 5 element.value

-- the version of SCRAM that `mechanism` names; none where it names none that is spoken here
abbrev pub SaysVersion : List ℕ → Option ScramVersion → Type 0
SaysVersion document None = (name : List ℕ) → HasText document mechanism_key name → version_named name ≡ None
SaysVersion document (Some version) = (name : List ℕ) × HasText document mechanism_key name × (version_named name ≡ Some version)

-- a `saslStart` by this version of SCRAM, with this message
pub record IsStart (document : List ℕ) (version : ScramVersion) (payload : List ℕ) : Type 0 where
  pub named : IsCommandNamed document sasl_start_key
  pub mechanism : SaysVersion document (Some version)
  pub message : HasPayload document payload

-- hello, by its name or by a legacy one
abbrev pub IsHelloBy : List ℕ → Bool → Type 0
IsHelloBy document false = IsCommandNamed document hello_command_name
IsHelloBy document true = IsCommandNamed document legacy_hello_command_name ⊎ IsCommandNamed document is_master_key

abbrev pub IsHello : List ℕ → Type 0
IsHello document = IsHelloBy document false ⊎ IsHelloBy document true

-- a hello that carries a `saslStart` by this version, with this message
pub record IsSpeculativeStart (document : List ℕ) (version : ScramVersion) (payload : List ℕ) : Type 0 where
  pub is_hello : IsHello document
  pub inner : List ℕ
  pub inside : HasInside document speculative_authenticate_key inner
  pub start : IsStart inner version payload

-- a login by this version begins with this message
abbrev pub StartsLogin : List ℕ → ScramVersion → List ℕ → Type 0
StartsLogin document version payload = IsStart document version payload ⊎ IsSpeculativeStart document version payload

-- a `saslContinue` of this server's conversation, with this message
pub record SaysSaslContinue (document payload : List ℕ) : Type 0 where
  pub named : IsCommandNamed document sasl_continue_key
  pub conversation : HasInt32 document conversation_id_key conversation_id
  pub message : HasPayload document payload

-- ---- what a request is to its document

-- `options` asks for no empty exchange at the end
abbrev pub SkipsEmptyExchange : List ℕ → Type 0
SkipsEmptyExchange document = (options : List ℕ) × HasInside document options_key options × HasTrue options skip_empty_exchange_key

-- a `saslStart`
pub record SaysStart (document : List ℕ) (start : StartRequest) : Type 0 where
  pub named : IsCommandNamed document sasl_start_key
  pub version : SaysVersion document start.version
  pub message : HoldsIfAny (HasPayload document) start.payload
  pub skips : IsTrue start.skips_empty_exchange ↔ SkipsEmptyExchange document

-- a login that a hello carries
pub record CarriesStart (document : List ℕ) (start : StartRequest) : Type 0 where
  pub inner : List ℕ
  pub inside : HasInside document speculative_authenticate_key inner
  pub says : SaysStart inner start

-- a `saslStart`, alone or within a hello
abbrev pub BringsStart : List ℕ → StartRequest → Type 0
BringsStart document start = SaysStart document start ⊎ (IsHello document × CarriesStart document start)

-- the login that a hello carries; none where what it carries is no `saslStart`
abbrev pub CarriesLogin : List ℕ → Option StartRequest → Type 0
CarriesLogin document None = (inner : List ℕ) → HasInside document speculative_authenticate_key inner → IsCommandNamed inner sasl_start_key → ⊥
CarriesLogin document (Some start) = CarriesStart document start

-- a user's name without its database: what stands behind the first dot, or all of it where there is none
abbrev pub name_without_database : List ℕ → List ℕ
name_without_database user = if position_or_len (λ b. b == 46) user == length user then user else after_first (λ b. b == 46) user

-- the mechanisms of this user are asked for
abbrev pub AsksMechanismsOf : List ℕ → List ℕ → Type 0
AsksMechanismsOf document user = (text : List ℕ) × HasText document sasl_supported_mechs_key text × (user ≡ name_without_database text)

pub record SaysHello (document : List ℕ) (hello : Hello) : Type 0 where
  pub name : IsHelloBy document hello.is_legacy
  pub mechanisms : HoldsIfAny (AsksMechanismsOf document) hello.mechanisms_of
  pub speculation : CarriesLogin document hello.speculation

-- a `saslContinue`
pub record SaysContinue (document : List ℕ) (next : ContinueRequest) : Type 0 where
  pub named : IsCommandNamed document sasl_continue_key
  pub conversation : IsTrue next.is_of_conversation ↔ HasInt32 document conversation_id_key conversation_id
  pub message : HoldsIfAny (HasPayload document) next.payload

-- the names that are known
abbrev pub is_known_command : List ℕ → Bool
is_known_command name =
    bytes_eq name hello_command_name || bytes_eq name legacy_hello_command_name || bytes_eq name is_master_key
    || bytes_eq name sasl_start_key || bytes_eq name sasl_continue_key || bytes_eq name ping_command_name
    || bytes_eq name build_info_command_name || bytes_eq name lowercase_build_info_command_name || bytes_eq name end_sessions_command_name

-- the document has no first key
abbrev pub IsUnnamed : List ℕ → Type 0
IsUnnamed document = (name : List ℕ) → IsCommandNamed document name → ⊥

-- the document's first key, or the empty text where it has none
abbrev pub IsCommandName : List ℕ → List ℕ → Type 0
IsCommandName document name = IsCommandNamed document name ⊎ (IsUnnamed document × (name ≡ []))

-- another command, or no first key
pub record SaysOther (document name : List ℕ) : Type 0 where
  pub named : IsCommandName document name
  pub unknown : is_known_command name ≡ false

-- the document asks for this
abbrev pub SaysRequest : List ℕ → Request → Type 0
SaysRequest document (HelloRequest hello) = SaysHello document hello
SaysRequest document (Starting start) = SaysStart document start
SaysRequest document (Continuing next) = SaysContinue document next
SaysRequest document Ping = IsCommandNamed document ping_command_name
SaysRequest document BuildInfo = IsCommandNamed document build_info_command_name ⊎ IsCommandNamed document lowercase_build_info_command_name
SaysRequest document EndSessions = IsCommandNamed document end_sessions_command_name
SaysRequest document (Other name) = SaysOther document name.now
