use Rattle.std.proofs.Common.{◌+◌, All, subst, sym, drop_of_length-le}
use Rattle.std.proofs.lemmas.Result.{err_from_is_err_and}
use Rattle.std.proofs.lemmas.List.Elements.{All-push}
use Rattle.mongo_settings.specs.Batch.{IsLoginSpoken}
use Rattle.mongo_settings.proofs.LoginsRead.{ReadTo, read_more, read_stopped, each_read}
use Rattle.mongo_settings.proofs.settings.logins.each_settings.Goals as goal

pub returns-in_err-settings-clause-settings : goal.returns-in_err-settings-clause-settings
returns-in_err-settings-clause-settings c =
    let p = err_from_is_err_and c.from_residual.result c.from_residual.ensures.1 in
    rw (p.1, p.2) (read_stopped c.args.values.now c.loop-value.value-index c.loop-value.logins c.value-item.result c.in_err-settings.field-0.0 c.loop-value-test.true c.value-item.is c.loop-value.invariant.read c.in_err-settings.ensures.settings)

pub loop-value-preserved : goal.loop-value-preserved
loop-value-preserved c = record {
  read = subst (ReadTo c.args.values.now (c.loop-value.value-index + 1)) (sym c.in_ok-push.ensures.added) (read_more c.args.values.now c.loop-value.value-index c.loop-value.logins c.value-item.result c.in_ok-settings.settings c.loop-value-test.true c.value-item.is c.loop-value.invariant.read c.in_ok-settings.ensures.settings);
  spoken = subst (All IsLoginSpoken) (sym c.in_ok-push.ensures.added) (All-push IsLoginSpoken c.loop-value.logins c.in_ok-settings.settings c.loop-value.invariant.spoken c.in_ok-settings.ensures.spoken);
}

pub returns-clause-settings : goal.returns-clause-settings
returns-clause-settings c = each_read c.args.values.now c.loop-value.value-index c.loop-value.logins (drop_of_length-le c.args.values.now c.loop-value-test.false) c.loop-value.invariant.read
