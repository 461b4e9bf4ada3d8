-- The client's first message: its nonce, and that it binds no channel.
use Rattle.std.specs.Prelude.{ℕ, ℤ, pos, List, [], ◌∷◌}
use Rattle.mongo_command.specs.Literal.{generic_element, int32_element, document_of}
use Rattle.mongo_aws.specs.Keys.{client_nonce_key, binding_key}

-- no channel binding: the character `n` as a number
abbrev pub no_binding : ℤ
no_binding = pos 110

abbrev pub client_first : List ℕ → List ℕ
client_first nonce = document_of (generic_element client_nonce_key nonce ∷ int32_element binding_key no_binding ∷ [])
