use Rattle.std.proofs.Common.{◌∙◌, ◌∷◌, ◌++◌, List, ap, subst}
use Rattle.std.specs.List.{flat_map}
use Rattle.std.proofs.lemmas.Result.{err_from_is_err_and}
use Rattle.mongo_bson.specs.Document.{Element, spell}
use Rattle.mongo_bson.specs.Framed.{element_bytes, enclosed}
use Rattle.mongo_command.specs.Literal.{text_element}
use Rattle.mongo_command.specs.Arguments.{TooLongFor}
use Rattle.mongo_command.specs.Keys.{db_key}
use Rattle.mongo_command.proofs.CarriedArguments.{arguments_refused}
use Rattle.mongo_command.proofs.generic_arguments.GenericArguments.document_with.Goals as goal

pub returns-clause-document : goal.returns-clause-document
returns-clause-document c =
    rw c.in_ok-document.ensures.copied at c.in_ok-append_arguments.ensures.added
    ∙ ap (λ (es : List Element). enclosed (element_bytes c.args.body.now ++ flat_map spell (text_element db_key c.args.target_db.now ∷ es))) c.fields-fields.ensures.elements

pub returns-in_err-append_arguments-clause-refused : goal.returns-in_err-append_arguments-clause-refused
returns-in_err-append_arguments-clause-refused c =
    let e = err_from_is_err_and c.from_residual-in_err-append_arguments.result c.from_residual-in_err-append_arguments.ensures.1 in
    rw (e.1, e.2) (subst (λ (es : List Element). TooLongFor c.in_err-append_arguments.field-0.0 (enclosed (element_bytes c.args.body.now ++ flat_map spell (text_element db_key c.args.target_db.now ∷ es)))) c.fields-fields.ensures.elements (rw c.in_ok-document.ensures.copied at c.in_err-append_arguments.ensures.refused))

pub returns-in_err-document-clause-refused : goal.returns-in_err-document-clause-refused
returns-in_err-document-clause-refused c =
    let e = err_from_is_err_and c.from_residual-in_err-document.result c.from_residual-in_err-document.ensures.1 in
    rw (e.1, e.2, c.in_err-document.ensures.refused) tt

pub append_arguments-requires : goal.append_arguments-requires
append_arguments-requires c = record { named = c.fields-fields.ensures.named }

pub returns-clause-framed : goal.returns-clause-framed
returns-clause-framed c = c.in_ok-append_arguments.ensures.framed

pub fields-fields-requires : goal.fields-fields-requires
fields-fields-requires c = c.in_ok-read_concern.ensures.document

pub returns-in_err-read_concern-clause-refused : goal.returns-in_err-read_concern-clause-refused
returns-in_err-read_concern-clause-refused c =
    arguments_refused c.from_residual.result c.in_err-read_concern.field-0.0 c.args.body.now c.args.target_db.now c.args.self.now c.from_residual.ensures.1 c.in_err-read_concern.ensures.refused
