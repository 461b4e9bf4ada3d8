-- What an X.509 login does is a step of its plan.
use Rattle.std.proofs.Common.{◌≡◌, ◌⊎◌, ℕ, ℤ, Bool, true, false, refl, sym, ◌∙◌, subst, inl, inr, arith, Option, None, Result, Ok, Err, List, [], ◌∷◌, pos, IfErr, OnOk, flat_map}
use Rattle.std.proofs.lemmas.Bool.{false≢true}
use Rattle.mongo_bson.specs.Document.{spell}
use Rattle.mongo_bson.proofs.Enclosed.{length-enclosed}
use Rattle.mongo_wire.specs.declared.error.Error.{Error}
use Rattle.mongo_wire.specs.declared.error.ErrorKind.{ErrorKind}
use Rattle.mongo_wire.specs.declared.error.ErrorKind.TheVariants.{OutOfMemory}
use Rattle.mongo_wire.specs.Outside.{State}
use Rattle.mongo_command.specs.Command.{present}
use Rattle.mongo_command.specs.Conversation.{plain_message, ends, saying, Reached, StoppedKeeping}
use Rattle.mongo_command.specs.Exchange.{DocumentRefused, CountsStay, Exchanges, point}
use Rattle.mongo_command.specs.Literal.{text_element, int32_element}
use Rattle.mongo_command.proofs.Steps.{reached_ending}
use Rattle.mongo_sasl.specs.declared.mechanism.AuthMechanism.TheVariants.{MongoDbX509}
use Rattle.mongo_sasl.specs.Stops.{BeginsWithCommand, RefusedAtOnce}
use Rattle.mongo_sasl.specs.Login.{EndsByReply}
use Rattle.mongo_sasl.specs.X509.{IsCertificateAccepted, X509Row, x509_body, x509_command, X509Handed, x509_said, x509_heard, x509_plan_from, x509_plan}
use Rattle.mongo_sasl.specs.Keys.{authenticate_key, mechanism_key, username_key}
use Rattle.mongo_sasl.specs.Mechanism.{name_of}
use Rattle.mongo_sasl.proofs.LastReply.{ends_by_reply}
use Rattle.mongo_sasl.proofs.NotBuilt.{not_built}
use Rattle.mongo_sasl.proofs.AtOnce.{refused_later}
use Rattle.mongo_sasl.proofs.X509Plan.{certificate_no_row}

module _ (handed : X509Handed) (later : handed.speculated ≡ false) where
  -- what is said
  pub x509_begins : BeginsWithCommand (x509_plan handed)
  x509_begins = subst (λ s. BeginsWithCommand (x509_plan_from s handed)) (sym later) (x509_said handed, refl)

  -- a login that isn't answered yet
  pub x509_stopped : {kept : Option ErrorKind} (kind : ErrorKind) (old new : State) (before after : ℤ) → StoppedKeeping (saying (x509_said handed) x509_heard) kind (point old before) (point new after) kept → StoppedKeeping (x509_plan handed) kind (point old before) (point new after) kept
  x509_stopped {kept = kept} kind old new before after r = subst (λ s. StoppedKeeping (x509_plan_from s handed) kind (point old before) (point new after) kept) (sym later) r

  -- the command wasn't built
  pub x509_unbuilt : (kind : ErrorKind) → DocumentRefused kind (x509_body handed.credential.username) → RefusedAtOnce (x509_plan handed) kind
  x509_unbuilt kind unbuilt =
      subst (λ s. RefusedAtOnce (x509_plan_from s handed) kind) (sym later)
      (not_built (x509_said handed) x509_heard (x509_command handed.credential handed.server_api) kind refl
      (omega (arith, length-enclosed (flat_map spell (int32_element authenticate_key (pos 1) ∷ text_element mechanism_key (name_of MongoDbX509) ∷ present (text_element username_key) handed.credential.username)))) unbuilt)

  -- the server took the certificate
  pub x509_replied : {T : Type 0} (r : Result T Error) (reply held : List ℕ) (old new : State) (before after : ℤ) → reply ≡ held → Exchanges handed.maximum (plain_message (x509_said handed).document) (point old before) (point new after) reply → CountsStay old new → OnOk r (IsCertificateAccepted reply) → OnOk r (EndsByReply (x509_plan handed) tt held (point old before) (point new after))
  x509_replied (Ok x) reply held old new before after same e counts is =
      subst (λ s. EndsByReply (x509_plan_from s handed) tt held (point old before) (point new after)) (sym later)
      (subst (λ document. EndsByReply (saying (x509_said handed) x509_heard) tt document (point old before) (point new after)) same
      (ends_by_reply (saying (x509_said handed) x509_heard) tt (x509_said handed) reply old new before after refl
      (inr (certificate_no_row reply is.0 is.1, (is.0, is.1, refl))) e counts))
  x509_replied (Err x) reply held old new before after same e counts is = tt

  heard_refused : (reply : List ℕ) (kind : ErrorKind) → X509Row reply kind ⊎ (kind ≡ OutOfMemory) → RefusedAtOnce (x509_heard reply) kind
  heard_refused reply kind (inl row) = inl (inl row)
  heard_refused reply kind (inr memory) = inr (inl memory)

  -- it didn't
  pub x509_refused : {T : Type 0} (r : Result T Error) (reply : List ℕ) (old new : State) (before after : ℤ) → Exchanges handed.maximum (plain_message (x509_said handed).document) (point old before) (point new after) reply → CountsStay old new → IfErr r (λ e. X509Row reply e.kind ⊎ (e.kind ≡ OutOfMemory)) → IfErr r (λ e. StoppedKeeping (x509_plan handed) e.kind (point old before) (point new after) None)
  x509_refused (Ok x) reply old new before after e counts h = tt
  x509_refused (Err x) reply old new before after e counts h =
      x509_stopped x.kind old new before after (refused_later (x509_said handed) x509_heard reply x.kind old new before after e counts (heard_refused reply x.kind h))

-- the hello was answered
pub x509_at_once : (handed : X509Handed) (old : State) (before : ℤ) → handed.speculated ≡ true → Reached (x509_plan handed) tt (point old before) (point old before)
x509_at_once handed old before is = subst (λ s. Reached (x509_plan_from s handed) tt (point old before) (point old before)) (sym is) (reached_ending tt old before)

pub ends_at_once : (handed : X509Handed) → handed.speculated ≡ true → x509_plan handed [] (ends tt)
ends_at_once handed is = subst (λ s. x509_plan_from s handed [] (ends tt)) (sym is) refl

-- a login isn't both answered and not
pub not_both_ways : (speculated : Bool) (Anything : Type 0) → speculated ≡ true → speculated ≡ false → Anything
not_both_ways speculated Anything is later = absurd (false≢true (sym later ∙ is))
