-- A document is longer than each of its parts, so it is too long where a part is.
use Rattle.std.proofs.Common.{◌≡◌, ℕ, ◌+◌, ◌<◌, Option, None, Some, List, [], ◌∷◌, ◌++◌, length, option_map, refl, ap, ◌∙◌, subst, length-append, arith}
use Rattle.std.specs.List.{flat_map}
use Rattle.std.specs.Option.{IsSomeAnd}
use Rattle.std.proofs.lemmas.Grind.{flat_map-append}
use Rattle.mongo_bson.specs.Document.{Element, spell}
use Rattle.mongo_bson.specs.declared.fault.BsonFault.{BsonFault}
use Rattle.mongo_bson.specs.declared.fault.BsonFault.TheVariants.{TooLong, OutOfMemory}
use Rattle.mongo_bson.proofs.Enclosed.{length-enclosed}
use Rattle.mongo_command.specs.Literal.{document_element, text_element, document_of}
use Rattle.mongo_command.specs.Command.{present}
use Rattle.mongo_command.specs.Arguments.{TooLongFor}
use Rattle.mongo_command.proofs.CommandDocument.{both_joined}
use Rattle.mongo_meta.specs.declared.client_metadata.ClientMetadata.{ClientMetadata}
use Rattle.mongo_meta.specs.declared.client_metadata.DriverMetadata.{DriverMetadata}
use Rattle.mongo_meta.specs.declared.form.Form.{Form}
use Rattle.mongo_meta.specs.declared.form.Form.TheVariants.{Whole, EnvironmentName, OsType, NoEnvironment, ShortPlatform}
use Rattle.mongo_meta.specs.Client.{in_form}
use Rattle.mongo_meta.specs.Keys.{application_key, driver_key, os_key, platform_key, env_key}
use Rattle.mongo_meta.specs.Metadata.{document_of_parts, metadata_document, application_document, driver_document, os_document, environment_document}

-- a document that is at least as long is too long as well
longer : (fault : BsonFault) (a b : List ℕ) → length a < length b + 1 → TooLongFor fault a → TooLongFor fault b
longer TooLong a b more long = omega (arith, long, more)
longer OutOfMemory a b more long = tt
longer fault a b more long = absurd long

length-first : (e : Element) (more : List Element) → length e.value < length (document_of (e ∷ more)) + 1
length-first e more =
    omega (arith, length-enclosed (flat_map spell (e ∷ more)), length-append (spell e) (flat_map spell more), length-append e.key (0 ∷ e.value))

length-later : (before more : List Element) → length (document_of more) < length (document_of (before ++ more)) + 1
length-later before more =
    omega (arith, length-enclosed (flat_map spell more), length-enclosed (flat_map spell (before ++ more)), ap length (flat_map-append spell before more), length-append (flat_map spell before) (flat_map spell more))

pub first_part : (fault : BsonFault) (e : Element) (more : List Element) → TooLongFor fault e.value → TooLongFor fault (document_of (e ∷ more))
first_part fault e more long = longer fault e.value (document_of (e ∷ more)) (length-first e more) long

pub later_part : (fault : BsonFault) (before more : List Element) → TooLongFor fault (document_of more) → TooLongFor fault (document_of (before ++ more))
later_part fault before more long = longer fault (document_of more) (document_of (before ++ more)) (length-later before more) long

-- the same of a part that may be there
pub given_part : (fault : BsonFault) (key : List ℕ) (part : Option (List ℕ)) (more : List Element) → IsSomeAnd part (TooLongFor fault) → TooLongFor fault (document_of (present (document_element key) part ++ more))
given_part fault key None more long = absurd long
given_part fault key (Some part) more long = first_part fault (document_element key part) more long

-- ---- the parts of metadata

application_elements : ClientMetadata → List Element
application_elements m = present (document_element application_key) (option_map application_document m.application)

driver_element : ClientMetadata → Element
driver_element m = document_element driver_key (driver_document m.driver)

os_element : ClientMetadata → Element
os_element m = document_element os_key (os_document m.os)

platform_element : ClientMetadata → Element
platform_element m = text_element platform_key m.platform

environment_elements : ClientMetadata → List Element
environment_elements m = present (document_element env_key) (option_map environment_document m.env) ++ []

driver_long : (fault : BsonFault) (m : ClientMetadata) → TooLongFor fault (driver_document m.driver) → TooLongFor fault (metadata_document m)
unfolding application_elements driver_element os_element platform_element environment_elements
driver_long fault m long =
    later_part fault (application_elements m) (driver_element m ∷ (os_element m ∷ (platform_element m ∷ environment_elements m)))
    (first_part fault (driver_element m) (os_element m ∷ (platform_element m ∷ environment_elements m)) long)

os_long : (fault : BsonFault) (m : ClientMetadata) → TooLongFor fault (os_document m.os) → TooLongFor fault (metadata_document m)
unfolding application_elements driver_element os_element platform_element environment_elements
os_long fault m long =
    later_part fault (application_elements m) (driver_element m ∷ (os_element m ∷ (platform_element m ∷ environment_elements m)))
    (later_part fault (driver_element m ∷ []) (os_element m ∷ (platform_element m ∷ environment_elements m))
    (first_part fault (os_element m) (platform_element m ∷ environment_elements m) long))

environment_long : (fault : BsonFault) (m : ClientMetadata) → IsSomeAnd (option_map environment_document m.env) (TooLongFor fault) → TooLongFor fault (metadata_document m)
unfolding application_elements driver_element os_element platform_element environment_elements
environment_long fault m long =
    later_part fault (application_elements m) (driver_element m ∷ (os_element m ∷ (platform_element m ∷ environment_elements m)))
    (later_part fault (driver_element m ∷ (os_element m ∷ (platform_element m ∷ []))) (environment_elements m)
    (given_part fault env_key (option_map environment_document m.env) [] long))

-- no form changes the application or the driver
in_form-application : (form : Form) (m : ClientMetadata) → m.application ≡ (in_form form m).application
in_form-application Whole m = refl
in_form-application EnvironmentName m = refl
in_form-application OsType m = refl
in_form-application NoEnvironment m = refl
in_form-application ShortPlatform m = refl

in_form-driver : (form : Form) (m : ClientMetadata) → m.driver ≡ (in_form form m).driver
in_form-driver Whole m = refl
in_form-driver EnvironmentName m = refl
in_form-driver OsType m = refl
in_form-driver NoEnvironment m = refl
in_form-driver ShortPlatform m = refl

pub driver_too_long : (fault : BsonFault) (form : Form) (m : ClientMetadata) → TooLongFor fault (driver_document m.driver) → TooLongFor fault (metadata_document (in_form form m))
driver_too_long fault form m long =
    driver_long fault (in_form form m) (subst (λ (d : DriverMetadata). TooLongFor fault (driver_document d)) (in_form-driver form m) long)

pub os_too_long : (fault : BsonFault) (form : Form) (m : ClientMetadata) → TooLongFor fault (os_document (in_form form m).os) → TooLongFor fault (metadata_document (in_form form m))
os_too_long fault form m long = os_long fault (in_form form m) long

pub environment_too_long : (fault : BsonFault) (form : Form) (m : ClientMetadata) → IsSomeAnd (option_map environment_document (in_form form m).env) (TooLongFor fault) → TooLongFor fault (metadata_document (in_form form m))
environment_too_long fault form m long = environment_long fault (in_form form m) long

same_parts : (a : Option (List ℕ)) (d o p : List ℕ) (e : Option (List ℕ)) (a' : Option (List ℕ)) (d' o' p' : List ℕ) (e' : Option (List ℕ)) → a ≡ a' → d ≡ d' → o ≡ o' → p ≡ p' → e ≡ e' → document_of_parts a d o p e ≡ document_of_parts a' d' o' p' e'
same_parts a d o p e a' d' o' p' e' sa sd so sp se =
    ap (λ x. document_of_parts x d o p e) sa
    ∙ ap (λ x. document_of_parts a' x o p e) sd
    ∙ ap (λ x. document_of_parts a' d' x p e) so
    ∙ ap (λ x. document_of_parts a' d' o' x e) sp
    ∙ ap (λ x. document_of_parts a' d' o' p' x) se

-- the document of a form, by its parts
pub whole_of_parts : (form : Form) (m : ClientMetadata) (application : Option (List ℕ)) (driver os platform : List ℕ) (env : Option (List ℕ)) → application ≡ option_map application_document m.application → driver ≡ driver_document m.driver → os ≡ os_document (in_form form m).os → platform ≡ (in_form form m).platform → env ≡ option_map environment_document (in_form form m).env → document_of_parts application driver os platform env ≡ metadata_document (in_form form m)
whole_of_parts form m application driver os platform env a d o p e =
    same_parts application driver os platform env (option_map application_document (in_form form m).application) (driver_document (in_form form m).driver) (os_document (in_form form m).os) (in_form form m).platform (option_map environment_document (in_form form m).env) (a ∙ ap (option_map application_document) (in_form-application form m)) (d ∙ ap driver_document (in_form-driver form m)) o p e

-- five fields that are the same, one after another
pub same_fields : (a b c d e v w x y z : List Element) → a ≡ v → b ≡ w → c ≡ x → d ≡ y → e ≡ z → document_of (a ++ (b ++ (c ++ (d ++ (e ++ []))))) ≡ document_of (v ++ (w ++ (x ++ (y ++ (z ++ [])))))
same_fields a b c d e v w x y z p q r s t = ap document_of (both_joined _ _ _ _ p (both_joined _ _ _ _ q (both_joined _ _ _ _ r (both_joined _ _ _ _ s (both_joined _ _ _ _ t refl)))))
