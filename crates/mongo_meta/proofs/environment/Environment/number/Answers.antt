use Rattle.std.proofs.Common.{ap, ◌∙◌}
use Rattle.std.specs.Option.{option_and_then}
use Rattle.mongo_meta.specs.Variables.{number_in}
use Rattle.mongo_meta.proofs.Numbers.{number_read}
use Rattle.mongo_meta.proofs.environment.Environment.number.Goals as goal

pub returns-in-Some : goal.returns-in-Some
returns-in-Some c = c.ok.ensures.value ∙ number_read c.in-Some.value.now c.parse.result c.parse.ensures.value.0 ∙ ap (option_and_then number_in) c.in-Some.ensures
