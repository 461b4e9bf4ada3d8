-- What `ok` says of a login reply.
use Rattle.std.proofs.Common.{◌≡◌, ℕ, ℤ, pos, Option, None, Some, List, sym, subst, ◌∙◌}
use Rattle.mongo_bson.specs.Document.{Element}
use Rattle.mongo_bson.specs.Number.{int_of_kind}
use Rattle.mongo_bson.specs.Value.{IsValue}
use Rattle.mongo_bson.specs.declared.raw_value.RawValue.{RawValue}
use Rattle.mongo_wire.specs.declared.auth_fault.AuthFault.TheVariants.{Malformed, Refused}
use Rattle.mongo_wire.specs.declared.error.ErrorKind.{ErrorKind}
use Rattle.mongo_wire.specs.declared.error.ErrorKind.TheVariants.{Authentication, OutOfMemory}
use Rattle.mongo_command.specs.Field.{field_of}
use Rattle.mongo_command.specs.Fields.{IsValueOf}
use Rattle.mongo_command.specs.Keys.{errmsg_key, ok_key}
use Rattle.mongo_sasl.specs.Reply.{Succeeded, SaysFailure, IsFailureOf, IsUnsuccessful}

other_number : (found : Option Element) (ok : RawValue) (number : Option ℤ) (n : ℤ) → IsValueOf found (Some ok) → ((kind : ℕ) (bytes : List ℕ) → IsValue kind bytes ok → number ≡ int_of_kind kind bytes) → number ≡ Some n → (n ≡ pos 1 → ⊥) → SaysFailure found
other_number None ok number n is meaning same other = absurd is
other_number (Some e) ok number n is meaning same other = (n, sym (meaning e.kind e.value is) ∙ same, other)

failed : (elements : List Element) (kind : ErrorKind) → SaysFailure (field_of ok_key elements) → IsFailureOf (field_of errmsg_key elements) kind → IsUnsuccessful elements kind
failed elements (Authentication (Refused text)) says is = (says, is)
failed elements OutOfMemory says is = tt
failed elements (Authentication fault) says is = absurd is
failed elements kind says is = absurd is

pub another : (elements : List Element) (kind : ErrorKind) (ok : RawValue) (number : Option ℤ) (n : ℤ) → IsValueOf (field_of ok_key elements) (Some ok) → ((kind : ℕ) (bytes : List ℕ) → IsValue kind bytes ok → number ≡ int_of_kind kind bytes) → number ≡ Some n → (n ≡ pos 1 → ⊥)
    → IsFailureOf (field_of errmsg_key elements) kind → IsUnsuccessful elements kind
another elements kind ok number n is meaning same other failure = failed elements kind (other_number (field_of ok_key elements) ok number n is meaning same other) failure

none_some : (number : Option ℤ) (n : ℤ) → number ≡ None → number ≡ Some n → ⊥
none_some number n p q = cc

no_number : (found : Option Element) (ok : RawValue) (number : Option ℤ) → IsValueOf found (Some ok) → ((kind : ℕ) (bytes : List ℕ) → IsValue kind bytes ok → number ≡ int_of_kind kind bytes) → number ≡ None → (Succeeded found → ⊥) × (SaysFailure found → ⊥)
no_number None ok number is meaning none = absurd is
no_number (Some e) ok number is meaning none =
    let same = meaning e.kind e.value is in
    (λ one. none_some number (pos 1) none (same ∙ one), λ says. none_some number says.0 none (same ∙ says.1))

pub unreadable : (elements : List Element) (kind : ErrorKind) (ok : RawValue) (number : Option ℤ) → kind ≡ Authentication Malformed → IsValueOf (field_of ok_key elements) (Some ok) → ((kind : ℕ) (bytes : List ℕ) → IsValue kind bytes ok → number ≡ int_of_kind kind bytes) → number ≡ None → IsUnsuccessful elements kind
unreadable elements kind ok number kind_is is meaning none = subst (IsUnsuccessful elements) (sym kind_is) (no_number (field_of ok_key elements) ok number is meaning none)
