-- The options of a client's handshakes, and those that a handshaker and an establisher were made of.
use Rattle.std.specs.Prelude.{ℕ}
use Rattle.mongo_meta.specs.declared.client_options.ClientOptions.{ClientOptions}
use Rattle.mongo_meta.specs.Options.{metadata_of}
use Rattle.mongo_establish.specs.declared.options.TopologySpec.{TopologySpec}
use Rattle.mongo_establish.specs.declared.options.HandshakerOptions.{HandshakerOptions}
use Rattle.mongo_establish.specs.declared.handshaker.Handshaker.{Handshaker}
use Rattle.mongo_establish.specs.declared.establisher.ConnectionEstablisher.{ConnectionEstablisher}

-- the greatest iteration count that is followed where the options name none
abbrev pub default_max_iterations : ℕ
default_max_iterations = 10000000

-- what a client with these options is made of, which follows so many iterations at most
abbrev pub client_spec : ClientOptions → ℕ → TopologySpec
client_spec options max_iterations = record { options = options; metadata = metadata_of options; max_iterations = max_iterations }

-- the stable API holds for the hello and for the commands of a login
abbrev pub options_of : TopologySpec → HandshakerOptions
options_of spec = record { server_api = spec.options.server_api; load_balanced = spec.options.load_balanced; auth_options = record { server_api = spec.options.server_api }; metadata = spec.metadata; max_iterations = spec.max_iterations }

-- what a handshaker was made of
abbrev pub options_in : Handshaker → HandshakerOptions
options_in handshaker = handshaker.options

-- what an establisher was made of
abbrev pub options_of_establisher : ConnectionEstablisher → HandshakerOptions
options_of_establisher establisher = options_in establisher.handshaker
