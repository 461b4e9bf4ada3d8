use Rattle.std.proofs.Common.{◌∙◌, ap}
use Rattle.std.proofs.lemmas.Result.{IfOk-weaker}
use Rattle.mongo_establish.specs.Options.{default_max_iterations, client_spec}
use Rattle.mongo_hello.proofs.spec.Goals as goal

pub returns-clause-spec : goal.returns-clause-spec
returns-clause-spec c =
    IfOk-weaker c.of_client.result _ _ (λ spec is. is ∙ ap (λ options. client_spec options default_max_iterations) c.in_ok-options.ensures.options) c.of_client.ensures.spec
