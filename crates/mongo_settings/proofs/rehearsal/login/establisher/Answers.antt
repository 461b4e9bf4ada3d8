use Rattle.std.proofs.Common.{ap, ◌∙◌}
use Rattle.std.proofs.lemmas.Result.{IfOk-weaker}
use Rattle.mongo_establish.specs.Options.{options_of}
use Rattle.mongo_settings.proofs.rehearsal.login.establisher.Goals as goal

pub returns-clause-options : goal.returns-clause-options
returns-clause-options c = IfOk-weaker c.from_spec.result _ _ (λ establisher is. is ∙ ap options_of c.in_ok-spec.ensures.spec) c.from_spec.ensures.options
