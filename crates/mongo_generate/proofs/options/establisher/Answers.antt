use Rattle.std.proofs.Common.{◌≡◌, IfOk, subst}
use Rattle.mongo_establish.specs.Options.{options_of_establisher}
use Rattle.mongo_generate.proofs.options.establisher.Goals as goal

pub returns-clause-options : goal.returns-clause-options
returns-clause-options c = subst (λ given. IfOk c.from_spec.result (λ e. options_of_establisher e ≡ given)) c.in_ok-spec.ensures.options c.from_spec.ensures.options
