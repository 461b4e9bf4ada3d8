-- What the replies say, as documents.
use Rattle.std.specs.Prelude.{ℕ, ℤ, pos, Bool, true, false, Option, None, Some, List, [], ◌∷◌, ◌++◌, codes}
use Rattle.std.specs.Int.{to_le_bytes, cast_unsigned, w64}
use Rattle.mongo_bson.specs.Document.{Element}
use Rattle.mongo_command.specs.Literal.{text_element, document_element, array_element, boolean_element, int32_element, ok_element, document_of, generic_element}
use Rattle.mongo_command.specs.Keys.{code_key, code_name_key, connection_id_key, errmsg_key, hello_ok_key, is_master_key, is_writable_primary_key, logical_session_timeout_minutes_key, max_bson_object_size_key, max_message_size_bytes_key, max_wire_version_key, max_write_batch_size_key, min_wire_version_key, ok_key, sasl_supported_mechs_key, speculative_authenticate_key}
use Rattle.mongo_sasl.specs.Keys.{conversation_id_key, done_key, payload_key}
use Rattle.mongo_scram.specs.Version.{version_name}
use Rattle.mongo_scram.specs.declared.scram_version.ScramVersion.TheVariants as version
use Rattle.mongo_server.specs.Announced.{conversation_id, maximum_document_length, maximum_message_length}
use Rattle.mongo_session.specs.declared.reply.Reply.{Reply}
use Rattle.mongo_session.specs.declared.reply.Reply.TheVariants.{Hello, Sasl, BuildInfo, Done, Refused}
use Rattle.mongo_session.specs.declared.reply.HelloAnswer.{HelloAnswer}
use Rattle.mongo_session.specs.declared.reply.SaslReply.{SaslReply}
use Rattle.mongo_session.specs.declared.reply.Mechanisms.{Mechanisms}
use Rattle.mongo_session.specs.declared.reply.Mechanisms.TheVariants.{Sha1, Sha256, Both}
use Rattle.mongo_session.specs.declared.reply.RefusedCommand.{RefusedCommand}
use Rattle.mongo_session.specs.declared.reply.RefusedCommand.TheVariants.{AuthenticationFailed, Unauthorized, CommandNotFound}
-- why a document isn't built
pub use Rattle.mongo_command.specs.Arguments.{TooLongFor}

-- ---- elements

-- a double by its 64 bits (IEEE 754 binary64)
abbrev pub double_element : List ℕ → ℕ → Element
double_element key bits = record { kind = 0x01; key = key; value = to_le_bytes w64 bits }

abbrev pub date_element : List ℕ → ℤ → Element
date_element key milliseconds = record { kind = 0x09; key = key; value = to_le_bytes w64 (cast_unsigned w64 milliseconds) }

-- ---- documents

abbrev pub done_document : List ℕ
done_document = document_of (ok_element ∷ [])

-- a command error
abbrev pub error_document : List ℕ → ℤ → List ℕ → List ℕ
error_document message code name = document_of (double_element ok_key 0 ∷ text_element errmsg_key message ∷ int32_element code_key code ∷ text_element code_name_key name ∷ [])

abbrev pub refusal_document : RefusedCommand → List ℕ
refusal_document AuthenticationFailed = error_document (codes "Authentication failed.") (pos 18) (codes "AuthenticationFailed")
refusal_document Unauthorized = error_document (codes "Command requires authentication") (pos 13) (codes "Unauthorized")
refusal_document (CommandNotFound name) = error_document (codes "no such command: '" ++ (name ++ codes "'")) (pos 59) (codes "CommandNotFound")

-- a message of a login
abbrev pub sasl_document : SaslReply → List ℕ
sasl_document message = document_of (int32_element conversation_id_key conversation_id ∷ boolean_element done_key message.is_done ∷ generic_element payload_key message.payload ∷ ok_element ∷ [])

-- the array [7, 0, 0, 0]
abbrev pub version_document : List ℕ
version_document = document_of (int32_element (codes "0") (pos 7) ∷ int32_element (codes "1") (pos 0) ∷ int32_element (codes "2") (pos 0) ∷ int32_element (codes "3") (pos 0) ∷ [])

abbrev pub build_info_document : List ℕ
build_info_document =
    document_of (
    text_element (codes "version") (codes "7.0.0")
    ∷ text_element (codes "gitVersion") []
    ∷ array_element (codes "versionArray") version_document
    ∷ int32_element max_bson_object_size_key maximum_document_length
    ∷ ok_element
    ∷ [])

-- ---- a hello's

-- the server's time
abbrev pub local_time_key : List ℕ
local_time_key = codes "localTime"

-- whether no writes are taken at all
abbrev pub read_only_key : List ℕ
read_only_key = codes "readOnly"

-- what is said of the server, whoever asks
abbrev pub description : List Element
description =
    boolean_element hello_ok_key true
    ∷ int32_element max_bson_object_size_key maximum_document_length
    ∷ int32_element max_message_size_bytes_key maximum_message_length
    ∷ int32_element max_write_batch_size_key (pos 100000)
    ∷ date_element local_time_key (pos 0)
    ∷ int32_element logical_session_timeout_minutes_key (pos 30)
    ∷ int32_element connection_id_key (pos 1)
    ∷ int32_element min_wire_version_key (pos 0)
    ∷ int32_element max_wire_version_key (pos 21)
    ∷ boolean_element read_only_key false
    ∷ []

-- the key that says that writes are taken
abbrev pub writable_key : Bool → List ℕ
writable_key true = is_master_key
writable_key false = is_writable_primary_key

-- an array of the mechanisms' names
abbrev pub name_elements : Mechanisms → List Element
name_elements Sha1 = text_element (codes "0") (version_name version.Sha1) ∷ []
name_elements Sha256 = text_element (codes "0") (version_name version.Sha256) ∷ []
name_elements Both = text_element (codes "0") (version_name version.Sha1) ∷ text_element (codes "1") (version_name version.Sha256) ∷ []

abbrev pub names_document : Mechanisms → List ℕ
names_document mechanisms = document_of (name_elements mechanisms)

abbrev pub mechanism_elements : Option Mechanisms → List Element
mechanism_elements None = []
mechanism_elements (Some mechanisms) = array_element sasl_supported_mechs_key (names_document mechanisms) ∷ []

abbrev pub speculation_elements : Option SaslReply → List Element
speculation_elements None = []
speculation_elements (Some message) = document_element speculative_authenticate_key (sasl_document message) ∷ []

abbrev pub hello_reply_elements : HelloAnswer → List Element
hello_reply_elements hello = description ++ (boolean_element (writable_key hello.is_legacy) true ∷ (mechanism_elements hello.mechanisms ++ (speculation_elements hello.speculation ++ ok_element ∷ [])))

-- ---- the document of a reply

abbrev pub document_of_served : Reply → List ℕ
document_of_served (Hello hello) = document_of (hello_reply_elements hello)
document_of_served (Sasl message) = sasl_document message
document_of_served BuildInfo = build_info_document
document_of_served Done = done_document
document_of_served (Refused refusal) = refusal_document refusal
