-- A hello's document, as its elements are put.
use Rattle.std.proofs.Common.{◌≡◌, ◌≤◌, ℕ, true, Option, None, Some, option_map, List, [], ◌∷◌, ◌++◌, length, refl, ap, ◌∙◌, arith}
use Rattle.mongo_bson.specs.Document.{Element}
use Rattle.mongo_bson.specs.Framed.{maximum_length}
use Rattle.mongo_command.specs.Command.{present}
use Rattle.mongo_command.specs.Literal.{array_element, boolean_element, document_element, ok_element}
use Rattle.mongo_command.specs.Keys.{sasl_supported_mechs_key, speculative_authenticate_key}
use Rattle.mongo_command.proofs.CommandDocument.{both_joined}
use Rattle.mongo_session.specs.declared.reply.HelloAnswer.{HelloAnswer}
use Rattle.mongo_session.specs.declared.reply.Mechanisms.{Mechanisms}
use Rattle.mongo_session.specs.declared.reply.Mechanisms.TheVariants.{Sha1, Sha256, Both}
use Rattle.mongo_session.specs.declared.reply.SaslReply.{SaslReply}
use Rattle.mongo_session.specs.Replies.{description, hello_reply_elements, mechanism_elements, names_document, speculation_elements, sasl_document, writable_key}

-- what is said of a login that came with the hello
speculation_said : (speculation : Option SaslReply) → present (document_element speculative_authenticate_key) (option_map sasl_document speculation) ≡ speculation_elements speculation
speculation_said None = refl
speculation_said (Some message) = refl

-- the mechanisms that are listed
mechanisms_said : (mechanisms : Option Mechanisms) → present (array_element sasl_supported_mechs_key) (option_map names_document mechanisms) ≡ mechanism_elements mechanisms
mechanisms_said None = refl
mechanisms_said (Some mechanisms) = refl

-- a hello's elements, by those that not every hello has
pub around : (hello : HelloAnswer) (key : List ℕ) (mechanisms speculation : Option (List ℕ)) (m s o : List Element) → key ≡ writable_key hello.is_legacy
    → m ≡ present (array_element sasl_supported_mechs_key) mechanisms → mechanisms ≡ option_map names_document hello.mechanisms
    → s ≡ present (document_element speculative_authenticate_key) speculation → speculation ≡ option_map sasl_document hello.speculation → o ≡ ok_element ∷ []
    → description ++ (boolean_element key true ∷ (m ++ (s ++ (o ++ [])))) ≡ hello_reply_elements hello
around hello key mechanisms speculation m s o named listed names_are said speculation_is succeeded =
    let those = listed ∙ ap (present (array_element sasl_supported_mechs_key)) names_are ∙ mechanisms_said hello.mechanisms in
    let answer = said ∙ ap (present (document_element speculative_authenticate_key)) speculation_is ∙ speculation_said hello.speculation in
    ap (λ es. description ++ es) (both_joined (boolean_element key true ∷ []) _ _ _ (ap (λ k. boolean_element k true ∷ []) named) (both_joined m _ _ _ those (both_joined s _ _ _ answer (both_joined o _ _ _ succeeded refl))))

-- the array of their names is short
pub short_names : (mechanisms : Mechanisms) → length (names_document mechanisms) ≤ maximum_length
short_names Sha1 = omega arith
short_names Sha256 = omega arith
short_names Both = omega arith
