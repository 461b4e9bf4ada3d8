use Rattle.std.proofs.Common.{◌≡◌, ◌∷◌, ◌++◌, List, subst, IfErr, OnOk}
use Rattle.std.specs.List.{flat_map}
use Rattle.std.proofs.lemmas.Result.{err_from_is_err_and}
use Rattle.mongo_bson.specs.Document.{Element, spell}
use Rattle.mongo_bson.specs.Framed.{element_bytes, enclosed}
use Rattle.mongo_command.specs.Literal.{text_element}
use Rattle.mongo_command.specs.Arguments.{TooLongFor}
use Rattle.mongo_command.specs.Keys.{db_key}
use Rattle.mongo_command.proofs.CarriedArguments.{arguments_refused}
use Rattle.mongo_command.proofs.generic_arguments.GenericArguments.append_to.Goals as goal

pub returns-clause-document : goal.returns-clause-document
returns-clause-document c =
    subst (λ (es : List Element). OnOk c.append_arguments.result (c.append_arguments.new.document ≡ enclosed (element_bytes c.args.body.now ++ flat_map spell (text_element db_key c.args.target_db.now ∷ es)))) c.fields-fields.ensures.elements (rw c.in_ok-reserve_exact.ensures.unchanged at c.append_arguments.ensures.added)

pub returns-clause-refused : goal.returns-clause-refused
returns-clause-refused c =
    subst (λ (es : List Element). IfErr c.append_arguments.result (λ fault. TooLongFor fault (enclosed (element_bytes c.args.body.now ++ flat_map spell (text_element db_key c.args.target_db.now ∷ es))))) c.fields-fields.ensures.elements (rw c.in_ok-reserve_exact.ensures.unchanged at c.append_arguments.ensures.refused)

pub append_arguments-requires : goal.append_arguments-requires
append_arguments-requires c = record { named = c.fields-fields.ensures.named }

pub returns-in_err-reserve_exact-clause-refused : goal.returns-in_err-reserve_exact-clause-refused
returns-in_err-reserve_exact-clause-refused c =
    let e = err_from_is_err_and c.from_residual-in_err-reserve_exact.result c.from_residual-in_err-reserve_exact.ensures.1 in
    rw (e.1, e.2, c.in_err-reserve_exact.ensures.refused) tt

pub fields-fields-requires : goal.fields-fields-requires
fields-fields-requires c = c.in_ok-read_concern.ensures.document

pub returns-clause-framed : goal.returns-clause-framed
returns-clause-framed c = c.append_arguments.ensures.framed

pub returns-in_err-read_concern-clause-refused : goal.returns-in_err-read_concern-clause-refused
returns-in_err-read_concern-clause-refused c =
    arguments_refused c.from_residual.result c.in_err-read_concern.field-0.0 c.args.body.now c.args.target_db.now c.args.self.now c.from_residual.ensures.1 c.in_err-read_concern.ensures.refused
