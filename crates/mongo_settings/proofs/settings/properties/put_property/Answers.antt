use Rattle.std.proofs.Common.{sym}
use Rattle.std.proofs.lemmas.Result.{err_from_is_err_and}
use Rattle.serde_json.specs.View.{view}
use Rattle.mongo_settings.proofs.Elements.{property_element-plain, without_element}
use Rattle.mongo_settings.proofs.settings.properties.put_property.Goals as goal

pub returns-in_err-plain_value-in-None-clause-refused : goal.returns-in_err-plain_value-in-None-clause-refused
returns-in_err-plain_value-in-None-clause-refused c =
    let plain = property_element-plain c.args.key.now (view c.args.value.now) (sym c.in-None.ensures) in
    let p = err_from_is_err_and c.from_residual-in_err-plain_value-in-None.result c.from_residual-in_err-plain_value-in-None.ensures.1 in
    rw (p.1, p.2, plain) (without_element c.in_err-plain_value-in-None.field-0.0 c.args.key.now c.args.document.now _ (c.in_err-plain_value-in-None.ensures c.args.key.now))

pub returns-in_ok-plain_value-in-None-clause-put : goal.returns-in_ok-plain_value-in-None-clause-put
returns-in_ok-plain_value-in-None-clause-put c =
    let plain = property_element-plain c.args.key.now (view c.args.value.now) (sym c.in-None.ensures) in
    rw (plain, c.in_ok-plain_value-in-None.ensures c.args.key.now) c.put_value-in-None.ensures.put

pub returns-in_ok-plain_value-in-None-clause-refused : goal.returns-in_ok-plain_value-in-None-clause-refused
returns-in_ok-plain_value-in-None-clause-refused c =
    let plain = property_element-plain c.args.key.now (view c.args.value.now) (sym c.in-None.ensures) in
    rw (plain, c.in_ok-plain_value-in-None.ensures c.args.key.now) c.put_value-in-None.ensures.refused
