use Rattle.std.proofs.Common.{◌≡◌, ℕ, List, IfOk, IfErr, subst}
use Rattle.mongo_command.specs.Arguments.{TooLongFor}
use Rattle.mongo_meta.proofs.Parts.{same_fields}
use Rattle.mongo_meta.proofs.client_document.joined.Goals as goal

pub returns-clause-document : goal.returns-clause-document
returns-clause-document c =
    subst (λ (d : List ℕ). IfOk c.document_of.result (λ document. document ≡ d)) (same_fields _ _ _ _ _ _ _ _ _ _ c.optional_document_field.ensures.elements c.document_field.ensures.elements c.document_field-2.ensures.elements c.owned_text_field.ensures.elements c.optional_document_field-2.ensures.elements) c.document_of.ensures.document

pub returns-clause-refused : goal.returns-clause-refused
returns-clause-refused c =
    subst (λ (d : List ℕ). IfErr c.document_of.result (λ fault. TooLongFor fault d)) (same_fields _ _ _ _ _ _ _ _ _ _ c.optional_document_field.ensures.elements c.document_field.ensures.elements c.document_field-2.ensures.elements c.owned_text_field.ensures.elements c.optional_document_field-2.ensures.elements) c.document_of.ensures.refused
