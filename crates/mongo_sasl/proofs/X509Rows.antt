-- What an X.509 login's reply is, by what its readers found.
use Rattle.std.proofs.Common.{◌≡◌, ◌⊎◌, ◌↔◌, ℕ, Bool, true, false, IsTrue, refl, sym, ◌∙◌, subst, inl, inr, List}
use Rattle.std.proofs.lemmas.Bool.{false≢true}
use Rattle.mongo_wire.specs.declared.auth_fault.AuthFault.TheVariants.{Malformed, X509Failed}
use Rattle.mongo_wire.specs.declared.error.ErrorKind.{ErrorKind}
use Rattle.mongo_wire.specs.declared.error.ErrorKind.TheVariants.{Authentication, OutOfMemory}
use Rattle.mongo_command.specs.declared.field.FieldFault.{FieldFault}
use Rattle.mongo_command.specs.declared.field.FieldFault.TheVariants.{Unreadable, OutOfMemory as NoMemory}
use Rattle.mongo_command.specs.declared.fields.Fields.{Fields}
use Rattle.mongo_command.specs.Field.{field_of}
use Rattle.mongo_command.specs.Fields.{HoldsWellFormed, IsNotWellFormed}
use Rattle.mongo_command.specs.Hello.{IsSuccess}
use Rattle.mongo_command.specs.Keys.{ok_key}
use Rattle.mongo_command.proofs.Plans.{no_row}
use Rattle.mongo_sasl.specs.View.{kind_of_field_fault}
use Rattle.mongo_sasl.specs.X509.{IsCertificateAccepted, IsFailed, X509Row}

module _ (reply : List ℕ) (fields : Fields) (held : HoldsWellFormed reply fields) (succeeded : Bool) (tells : IsTrue succeeded ↔ IsSuccess (field_of ok_key held.elements)) where
  -- the command succeeded
  pub certificate_taken_by : succeeded ≡ true → IsCertificateAccepted reply
  certificate_taken_by is = (held.elements, record { well_formed = held.well_formed; ok = tells.0 is })

  -- it didn't
  pub failed_by : (kind : ErrorKind) → succeeded ≡ false → kind ≡ Authentication X509Failed → X509Row reply kind ⊎ (kind ≡ OutOfMemory)
  failed_by kind is same =
      let failed : IsFailed reply = record { elements = held.elements; well_formed = held.well_formed; failed = λ success. false≢true (sym is ∙ tells.1 success) } in
      inl (subst (X509Row reply) (sym same) (X509Failed, refl, inr (no_row Malformed _ (λ none. none held.elements held.well_formed), (refl, failed))))

-- the reply can't be read
pub unread_by : (reply : List ℕ) (fault : FieldFault) (kind : ErrorKind) → IsNotWellFormed reply fault → kind ≡ kind_of_field_fault fault → X509Row reply kind ⊎ (kind ≡ OutOfMemory)
unread_by reply Unreadable kind unread same = inl (subst (X509Row reply) (sym same) (Malformed, refl, inl (refl, unread)))
unread_by reply NoMemory kind unread same = inr same
