use Rattle.std.proofs.Common.{◌∙◌, ap}
use Rattle.std.proofs.lemmas.Result.{IfOk-weaker}
use Rattle.mongo_establish.specs.Options.{default_max_iterations, client_spec, options_of}
use Rattle.mongo_generate.specs.Options.{handshaker_options}
use Rattle.mongo_generate.proofs.options.spec.Goals as goal

pub returns-clause-options : goal.returns-clause-options
unfolding handshaker_options
returns-clause-options c =
    IfOk-weaker c.of_client.result _ _ (λ spec is. ap options_of (is ∙ ap (λ options. client_spec options default_max_iterations) c.in_ok-options.ensures.options)) c.of_client.ensures.spec
