use Rattle.std.proofs.Common.{◌≡◌, ◌++◌, ◌+◌, ◌∷◌, [], ap, sym, ◌∙◌, drop}
use Rattle.std.specs.List.{flat_map}
use Rattle.std.proofs.lemmas.List.{drop_more, drop_all}
use Rattle.std.proofs.lemmas.Result.{err_from_is_err_and}
use Rattle.mongo_bson.specs.Framed.{element_bytes}
use Rattle.mongo_bson.specs.Document.{spell}
use Rattle.mongo_command.specs.Arguments.{field_elements}
use Rattle.mongo_command.proofs.CommandDocument.{sealed_grown, whole_grown, whole_too_long, all_written}
use Rattle.mongo_command.proofs.arguments.append_fields.Goals as goal

pub loop-field-preserved : goal.loop-field-preserved
loop-field-preserved c =
    let next : drop c.loop-field.field-index c.args.fields.now ≡ c.field-item.result ∷ drop (c.loop-field.field-index + 1) c.args.fields.now = drop_more c.args.fields.now c.loop-field.field-index c.field-item.result c.loop-field-test.true ∙ ap (λ x. x ∷ drop (c.loop-field.field-index + 1) c.args.fields.now) (sym c.field-item.is) in
    let done = c.in_ok-append_field.ensures in
    let here = flat_map spell (field_elements c.field-item.result) in
    record {
      framed = done.framed;
      sealed = sealed_grown c.loop-field.document c.append_field.new.document here done.framed done.added;
      named = (rw next at c.loop-field.invariant.named).1;
      whole = whole_grown c.loop-field.document c.append_field.new.document _ (field_elements c.field-item.result) (flat_map field_elements (drop (c.loop-field.field-index + 1) c.args.fields.now)) (flat_map field_elements (drop c.loop-field.field-index c.args.fields.now)) done.framed done.added (ap (flat_map field_elements) next) c.loop-field.invariant.whole;
    }

pub returns-in_err-append_field-clause-refused : goal.returns-in_err-append_field-clause-refused
returns-in_err-append_field-clause-refused c =
    let next : drop c.loop-field.field-index c.args.fields.now ≡ c.field-item.result ∷ drop (c.loop-field.field-index + 1) c.args.fields.now = drop_more c.args.fields.now c.loop-field.field-index c.field-item.result c.loop-field-test.true ∙ ap (λ x. x ∷ drop (c.loop-field.field-index + 1) c.args.fields.now) (sym c.field-item.is) in
    let e = err_from_is_err_and c.from_residual.result c.from_residual.ensures.1 in
    rw (e.1, e.2) (whole_too_long c.loop-field.document _ (field_elements c.field-item.result) (flat_map field_elements (drop (c.loop-field.field-index + 1) c.args.fields.now)) (flat_map field_elements (drop c.loop-field.field-index c.args.fields.now)) c.in_err-append_field.field-0.0 c.loop-field.invariant.framed (ap (flat_map field_elements) next) c.loop-field.invariant.whole c.in_err-append_field.ensures.refused)

pub returns-clause-added : goal.returns-clause-added
returns-clause-added c =
    let over : drop c.loop-field.field-index c.args.fields.now ≡ [] = drop_all c.loop-field.field-index c.args.fields.now c.loop-field-test.false in
    all_written c.loop-field.document _ c.loop-field.invariant.sealed (ap (λ xs. element_bytes c.loop-field.document ++ flat_map spell (flat_map field_elements xs)) (sym over) ∙ c.loop-field.invariant.whole)
