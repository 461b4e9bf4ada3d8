use Rattle.std.proofs.Common.{rules}
use Rattle.mongo_command.specs.Hello.{IsServerTable}
use Rattle.mongo_command.proofs.FieldAnswers.{refused, three_refused, required_refused}
use Rattle.mongo_command.proofs.hello_table.server_of.Goals as goal

pub returns-in_err-logical_session_timeout_minutes : goal.returns-in_err-logical_session_timeout_minutes
returns-in_err-logical_session_timeout_minutes c = λ els are. three_refused IsServerTable els _ _ _ _ _ _ _ _ c.from_residual.ensures.1 (λ t is. ((t.logical_session_timeout_minutes, t.min_wire_version, t.max_wire_version), (is.logical_session_timeout_minutes, is.min_wire_version, is.max_wire_version))) (c.in_err-logical_session_timeout_minutes.ensures els are)

pub returns-in_err-max_bson_object_size : goal.returns-in_err-max_bson_object_size
returns-in_err-max_bson_object_size c = λ els are. required_refused IsServerTable els _ _ _ _ c.from_residual-in_err-max_bson_object_size.ensures.1 (λ t is. (t.max_bson_object_size, is.max_bson_object_size)) (c.in_err-max_bson_object_size.ensures els are)

pub returns-in_err-max_message_size_bytes : goal.returns-in_err-max_message_size_bytes
returns-in_err-max_message_size_bytes c = λ els are. required_refused IsServerTable els _ _ _ _ c.from_residual-in_err-max_message_size_bytes.ensures.1 (λ t is. (t.max_message_size_bytes, is.max_message_size_bytes)) (c.in_err-max_message_size_bytes.ensures els are)

pub returns-in_err-max_write_batch_size : goal.returns-in_err-max_write_batch_size
returns-in_err-max_write_batch_size c = λ els are. refused IsServerTable els _ _ _ _ c.from_residual-in_err-max_write_batch_size.ensures.1 (λ t is. (t.max_write_batch_size, is.max_write_batch_size)) (c.in_err-max_write_batch_size.ensures els are)

pub returns-in_err-service_id : goal.returns-in_err-service_id
returns-in_err-service_id c = λ els are. three_refused IsServerTable els _ _ _ _ _ _ _ _ c.from_residual-in_err-service_id.ensures.1 (λ t is. ((t.service_id, t.topology_version, t.connection_id), (is.service_id, is.topology_version, is.connection_id))) (c.in_err-service_id.ensures els are)

pub returns-in_err-compressors : goal.returns-in_err-compressors
returns-in_err-compressors c = λ els are. three_refused IsServerTable els _ _ _ _ _ _ _ _ c.from_residual-in_err-compressors.ensures.1 (λ t is. ((t.compressors, t.sasl_supported_mechs, t.speculative_authenticate), (is.compressors, is.sasl_supported_mechs, is.speculative_authenticate))) (c.in_err-compressors.ensures els are)

pub returns : goal.returns
returns c = λ els are.
    let versions = c.in_ok-logical_session_timeout_minutes.ensures els are in
    let ids = c.in_ok-service_id.ensures els are in
    let documents = c.in_ok-compressors.ensures els are in
    record {
      compressors = documents.0;
      logical_session_timeout_minutes = versions.0;
      min_wire_version = versions.1;
      max_wire_version = versions.2;
      sasl_supported_mechs = documents.1;
      speculative_authenticate = documents.2;
      max_bson_object_size = search rules;
      max_message_size_bytes = search rules;
      max_write_batch_size = c.in_ok-max_write_batch_size.ensures els are;
      service_id = ids.0;
      topology_version = ids.1;
      connection_id = ids.2;
    }
