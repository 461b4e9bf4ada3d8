use Rattle.std.proofs.Common.{◌≡◌, drop}
use Rattle.mongo_sasl.specs.Rules.{first_broken}
use Rattle.mongo_sasl.proofs.rules.first_broken.Given as goal

abbrev pub invariant-loop-rule : goal.invariant-loop-rule
invariant-loop-rule l = first_broken l.rules ≡ first_broken (drop l.rule-index l.rules)
