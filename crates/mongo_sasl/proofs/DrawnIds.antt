-- The ids that exchanges draw, and the buffer where none was drawn.
use Rattle.std.proofs.Common.{◌≡◌, ◌⊎◌, ◌∙◌, ◌+◌, ◌%◌, ◌^◌, ℤ, sym, ap, inl, inr, arith, Option}
use Rattle.std.specs.Int.{cast_unsigned, w32}
use Rattle.std.proofs.lemmas.Int.{of_z-to_z}
use Rattle.mongo_bson.specs.declared.fault.BsonFault.TheVariants.{TooLong}
use Rattle.mongo_wire.specs.declared.error.ErrorKind.{ErrorKind}
use Rattle.mongo_wire.specs.declared.error.ErrorKind.TheVariants.{InvalidArgument, WriteFault, OutOfMemory}
use Rattle.mongo_wire.specs.declared.fault.ArgumentFault.TheVariants.{Bson}
use Rattle.mongo_wire.specs.declared.message.Message.{Message}
use Rattle.mongo_wire.specs.Bytes.{next_id}
use Rattle.mongo_wire.specs.Outside.{State}
use Rattle.mongo_command.specs.Exchange.{SendRefused, BufferRefused, point}
use Rattle.mongo_sasl.specs.EndsByScript.{Standing, DrawsOnce}

-- ---- the next id is another one, and so is the one after that

next_bits : (id : ℤ) → cast_unsigned w32 (next_id id) ≡ (cast_unsigned w32 id + 1) % 2 ^ 32
next_bits id = of_z-to_z w32 ((cast_unsigned w32 id + 1) % 2 ^ 32) (omega arith)

next_other : (id : ℤ) → next_id id ≡ id → ⊥
next_other id same =
    let bits : (cast_unsigned w32 id + 1) % 2 ^ 32 ≡ cast_unsigned w32 id = sym (next_bits id) ∙ ap (cast_unsigned w32) same in
    omega (arith, bits)

second_other : (id : ℤ) → next_id (next_id id) ≡ id → ⊥
second_other id same =
    let second : (cast_unsigned w32 (next_id id) + 1) % 2 ^ 32 ≡ cast_unsigned w32 id = sym (next_bits (next_id id)) ∙ ap (cast_unsigned w32) same in
    omega (arith, next_bits id, second)

-- ---- a buffer after at most one id, and after at most two

module _ {L : Type 0} where
  pub once_buffer : (old new : Standing L) → DrawsOnce old new → new.id ≡ old.id → new.buffer ≡ old.buffer
  once_buffer old new p is = elim p.drawn [ inl same ↦ same.1 | inr next ↦ absurd (next_other old.id (sym next ∙ is)) ]

  pub twice_buffer : (old middle new : Standing L) → DrawsOnce old middle → DrawsOnce middle new → new.id ≡ old.id → new.buffer ≡ old.buffer
  twice_buffer old middle new p q is =
      elim p.drawn [
        | inl same ↦ elim q.drawn [ inl also ↦ also.1 ∙ same.1 | inr next ↦ absurd (next_other old.id (ap next_id (sym same.0) ∙ sym next ∙ is)) ]
        | inr first ↦ elim q.drawn [ inl also ↦ absurd (next_other old.id (sym first ∙ sym also.0 ∙ is)) | inr next ↦ absurd (second_other old.id (ap next_id (sym first) ∙ sym next ∙ is)) ]
      ]

-- ---- an exchange

sent_draws : (kind : ErrorKind) (maximum : ℤ) (message : Message) (old new : State) (before after : ℤ) (kept : Option ErrorKind) → SendRefused kind maximum message (point old before) (point new after) kept → (after ≡ before) ⊎ (after ≡ next_id before)
sent_draws (InvalidArgument (Bson TooLong)) maximum message old new before after kept refused = inl refused.1.ids
sent_draws (InvalidArgument fault) maximum message old new before after kept refused = inl refused.2.ids
sent_draws WriteFault maximum message old new before after kept refused = inr refused.1.drawn
sent_draws OutOfMemory maximum message old new before after kept (inl unsent) = inl unsent.ids
sent_draws OutOfMemory maximum message old new before after kept (inr cut) = inr cut.1.drawn
sent_draws kind maximum message old new before after kept refused = absurd refused

-- one that was refused draws at most one
pub refused_draws : {L : Type 0} (kind : ErrorKind) (maximum : ℤ) (message : Message) (left taken : State) (kept : Option ErrorKind) (old new : Standing L) → BufferRefused kind maximum message (point left old.id) (point taken new.id) kept old.buffer new.buffer → DrawsOnce old new
refused_draws kind maximum message left taken kept old new (inl unsent) =
    elim (sent_draws kind maximum message left taken old.id new.id kept unsent.0) [ inl same ↦ record { drawn = inl (same, unsent.1) } | inr next ↦ record { drawn = inr next } ]
refused_draws kind maximum message left taken kept old new (inr cleared) = record { drawn = inr cleared.0.sends.drawn }
