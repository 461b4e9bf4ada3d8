use Rattle.std.proofs.Common.{All}
use Rattle.mongo_settings.specs.Batch.{IsLoginSpoken}
use Rattle.mongo_settings.proofs.LoginsRead.{ReadTo}
use Rattle.mongo_settings.proofs.settings.logins.each_settings.Given as goal

abbrev pub invariant-loop-value : goal.invariant-loop-value
invariant-loop-value l = record {
  read : ReadTo l.values l.value-index l.logins;
  spoken : All IsLoginSpoken l.logins;
}
