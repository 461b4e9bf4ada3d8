-- What the client's handshakes are made of.
use Rattle.mongo_meta.specs.Options.{default_options}
use Rattle.mongo_establish.specs.declared.options.HandshakerOptions.{HandshakerOptions}
use Rattle.mongo_establish.specs.Options.{default_max_iterations, client_spec, options_of}

-- it says no more of itself than it has to
unfoldable pub handshaker_options : HandshakerOptions
handshaker_options = options_of (client_spec default_options default_max_iterations)
