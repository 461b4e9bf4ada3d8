-- The question for a user's mechanisms, as it was appended.
use Rattle.std.proofs.Common.{◌≡◌, ℕ, false, Option, None, Some, is_some, List, ◌++◌, sym, ap, ◌∙◌}
use Rattle.std.proofs.lemmas.Bool.{false≢true}
use Rattle.mongo_bson.specs.Framed.{element_bytes, enclosed}
use Rattle.mongo_bson.specs.Document.{spell}
use Rattle.mongo_command.specs.Literal.{text_element}
use Rattle.mongo_command.specs.Keys.{sasl_supported_mechs_key}
use Rattle.mongo_sasl.specs.declared.mechanism.AuthMechanism.{AuthMechanism}
use Rattle.mongo_sasl.specs.Credential.{negotiated_by, user_of_admin}

pub asked : (username text : List ℕ) (given : Option (List ℕ)) (mechanism : Option AuthMechanism) (old new : List ℕ) → given ≡ Some username → is_some mechanism ≡ false → text ≡ user_of_admin username
    → new ≡ enclosed (element_bytes old ++ spell (text_element sasl_supported_mechs_key text)) → new ≡ negotiated_by given mechanism old
asked username text None mechanism old new is none says added = let nothing : None ≡ Some username = is in absurd cc
asked username text (Some u) (Some m) old new is none says added = absurd (false≢true (sym none))
asked username text (Some u) None old new is none says added =
    let some : Some u ≡ Some username = is in
    let same : u ≡ username = cc in
    added ∙ ap (λ t. enclosed (element_bytes old ++ spell (text_element sasl_supported_mechs_key t))) (says ∙ ap user_of_admin (sym same))
