-- Keys that stand in more than one table, or in a table and in a lemma, as the protocol spells them.
use Rattle.std.specs.Prelude.{ℕ, List, codes}

abbrev pub ok_key : List ℕ
ok_key = codes "ok"

abbrev pub code_key : List ℕ
code_key = codes "code"

abbrev pub code_name_key : List ℕ
code_name_key = codes "codeName"

abbrev pub errmsg_key : List ℕ
errmsg_key = codes "errmsg"

abbrev pub error_labels_key : List ℕ
error_labels_key = codes "errorLabels"

abbrev pub err_info_key : List ℕ
err_info_key = codes "errInfo"

abbrev pub n_key : List ℕ
n_key = codes "n"

abbrev pub cluster_time_key : List ℕ
cluster_time_key = codes "$clusterTime"

abbrev pub db_key : List ℕ
db_key = codes "$db"

abbrev pub api_version_key : List ℕ
api_version_key = codes "apiVersion"

abbrev pub api_strict_key : List ℕ
api_strict_key = codes "apiStrict"

abbrev pub api_deprecation_errors_key : List ℕ
api_deprecation_errors_key = codes "apiDeprecationErrors"

abbrev pub read_concern_key : List ℕ
read_concern_key = codes "readConcern"

abbrev pub write_concern_key : List ℕ
write_concern_key = codes "writeConcern"

abbrev pub hello_ok_key : List ℕ
hello_ok_key = codes "helloOk"

abbrev pub topology_version_key : List ℕ
topology_version_key = codes "topologyVersion"

abbrev pub process_id_key : List ℕ
process_id_key = codes "processId"

abbrev pub counter_key : List ℕ
counter_key = codes "counter"

abbrev pub sasl_supported_mechs_key : List ℕ
sasl_supported_mechs_key = codes "saslSupportedMechs"

abbrev pub speculative_authenticate_key : List ℕ
speculative_authenticate_key = codes "speculativeAuthenticate"

abbrev pub last_write_date_key : List ℕ
last_write_date_key = codes "lastWriteDate"

abbrev pub is_writable_primary_key : List ℕ
is_writable_primary_key = codes "isWritablePrimary"

abbrev pub is_master_key : List ℕ
is_master_key = codes "ismaster"

abbrev pub logical_session_timeout_minutes_key : List ℕ
logical_session_timeout_minutes_key = codes "logicalSessionTimeoutMinutes"

abbrev pub min_wire_version_key : List ℕ
min_wire_version_key = codes "minWireVersion"

abbrev pub max_wire_version_key : List ℕ
max_wire_version_key = codes "maxWireVersion"

abbrev pub max_bson_object_size_key : List ℕ
max_bson_object_size_key = codes "maxBsonObjectSize"

abbrev pub max_message_size_bytes_key : List ℕ
max_message_size_bytes_key = codes "maxMessageSizeBytes"

abbrev pub max_write_batch_size_key : List ℕ
max_write_batch_size_key = codes "maxWriteBatchSize"

abbrev pub connection_id_key : List ℕ
connection_id_key = codes "connectionId"
