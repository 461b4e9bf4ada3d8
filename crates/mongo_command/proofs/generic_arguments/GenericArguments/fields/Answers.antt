use Rattle.std.proofs.Common.{ap, refl, ◌∙◌}
use Rattle.mongo_command.specs.Literal.{document_element, boolean_element}
use Rattle.mongo_command.specs.Command.{present}
use Rattle.mongo_command.specs.Keys.{api_deprecation_errors_key, api_strict_key, read_concern_key}
use Rattle.mongo_command.proofs.CommandDocument.{both_joined}
use Rattle.mongo_command.proofs.generic_arguments.GenericArguments.fields.Goals as goal

pub returns-clause-elements : goal.returns-clause-elements
returns-clause-elements c =
    both_joined _ _ _ _ c.optional_document_field.ensures.elements
    (both_joined _ _ _ _ c.optional_document_field-2.ensures.elements
    (both_joined _ _ _ _ c.optional_version_field.ensures.elements
    (both_joined _ _ _ _ (c.optional_boolean_field.ensures.elements ∙ ap (present (boolean_element api_strict_key)) c.strict_of.ensures)
    (both_joined _ _ _ _ (c.optional_boolean_field-2.ensures.elements ∙ ap (present (boolean_element api_deprecation_errors_key)) c.deprecation_errors_of.ensures)
    (both_joined _ _ _ _ c.optional_document_field-3.ensures.elements
    (both_joined _ _ _ _ c.optional_int64_field.ensures.elements
    (both_joined _ _ _ _ c.optional_boolean_field-3.ensures.elements
    (both_joined _ _ _ _ c.optional_boolean_field-4.ensures.elements
    (both_joined _ _ _ _ (c.optional_document_field-4.ensures.elements ∙ ap (present (document_element read_concern_key)) c.requires)
    (both_joined _ _ _ _ c.optional_write_concern_field.ensures.elements
    (both_joined _ _ _ _ c.optional_document_field-5.ensures.elements
    refl)))))))))))
