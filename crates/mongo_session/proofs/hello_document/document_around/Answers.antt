use Rattle.std.proofs.Common.{◌≡◌, List, ℕ, ap, subst, IfOk, IfErr, rules}
use Rattle.mongo_command.specs.Arguments.{TooLongFor}
use Rattle.mongo_command.specs.Keys.{connection_id_key, hello_ok_key, logical_session_timeout_minutes_key, max_bson_object_size_key, max_message_size_bytes_key, max_wire_version_key, max_write_batch_size_key, min_wire_version_key}
use Rattle.mongo_command.specs.Literal.{document_of}
use Rattle.mongo_session.specs.Replies.{local_time_key, read_only_key}
use Rattle.mongo_session.proofs.Described.{around}
use Rattle.mongo_session.proofs.PlainKeys.{key_without_zero, writable_plain}
use Rattle.mongo_session.proofs.hello_document.document_around.Goals as goal

-- no key has a zero
pub document_of-requires : goal.document_of-requires
document_of-requires c = record {
  named = (
    key_without_zero hello_ok_key (search rules),
    (
      key_without_zero max_bson_object_size_key (search rules),
      (
        key_without_zero max_message_size_bytes_key (search rules),
        (
          key_without_zero max_write_batch_size_key (search rules),
          (
            key_without_zero local_time_key (search rules),
            (
              key_without_zero logical_session_timeout_minutes_key (search rules),
              (
                key_without_zero connection_id_key (search rules),
                (
                  key_without_zero min_wire_version_key (search rules),
                  (
                    key_without_zero max_wire_version_key (search rules),
                    (
                      key_without_zero read_only_key (search rules),
                      (writable_plain c.args.hello.now.is_legacy c.writable_key.result.now c.writable_key.ensures, (c.mechanisms_field.ensures.named, (c.optional_document_field.ensures.named, (c.ok_field.ensures.named, tt)))),
                    ),
                  ),
                ),
              ),
            ),
          ),
        ),
      ),
    ),
  );
}

pub returns-clause-document : goal.returns-clause-document
returns-clause-document c =
    let elements = around c.args.hello.now c.writable_key.result.now _ _ _ _ _ c.writable_key.ensures c.mechanisms_field.ensures.elements c.requires.mechanisms c.optional_document_field.ensures.elements c.requires.speculation c.ok_field.ensures.elements in
    subst (λ (d : List ℕ). IfOk c.document_of.result (λ document. document ≡ d)) (ap document_of elements) c.document_of.ensures.document

pub returns-clause-refused : goal.returns-clause-refused
returns-clause-refused c =
    let elements = around c.args.hello.now c.writable_key.result.now _ _ _ _ _ c.writable_key.ensures c.mechanisms_field.ensures.elements c.requires.mechanisms c.optional_document_field.ensures.elements c.requires.speculation c.ok_field.ensures.elements in
    subst (λ (d : List ℕ). IfErr c.document_of.result (λ fault. TooLongFor fault d)) (ap document_of elements) c.document_of.ensures.refused
