use Rattle.std.proofs.Common.{◌≡◌, drop}
use Rattle.mongo_meta.specs.Variables.{first_value}
use Rattle.mongo_meta.proofs.environment.first_value.Given as goal

abbrev pub invariant-loop-variable : goal.invariant-loop-variable
invariant-loop-variable l = first_value l.name l.variables ≡ first_value l.name (drop l.variable-index l.variables)
