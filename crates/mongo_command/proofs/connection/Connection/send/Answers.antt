use Rattle.std.proofs.Common.{◌≡◌, ℤ, Option, IfSome, true, inl, refl}
use Rattle.std.proofs.lemmas.Result.{err_from_is_err_and}
use Rattle.mongo_bson.specs.declared.fault.BsonFault.TheVariants.{TooLong}
use Rattle.mongo_wire.specs.Outside.{State}
use Rattle.mongo_wire.specs.declared.error.ErrorKind.{ErrorKind}
use Rattle.mongo_wire.specs.declared.error.ErrorKind.TheVariants.{InvalidArgument, WriteFault, OutOfMemory}
use Rattle.mongo_wire.specs.declared.fault.ArgumentFault.TheVariants.{Bson}
use Rattle.mongo_wire.specs.declared.message.Message.{Message}
use Rattle.mongo_command.specs.Exchange.{DocumentRefused, SendRefused, Unsent, sent_fault, point}
use Rattle.mongo_command.specs.Fault.{is_kept}
use Rattle.mongo_command.proofs.connection.Connection.send.Goals as goal

not_made : (kind : ErrorKind) (maximum : ℤ) (message : Message) (old new : State) (before after : ℤ) (kept : Option ErrorKind) → DocumentRefused kind message.document_payload → Unsent (point old before) (point new after) kept → SendRefused kind maximum message (point old before) (point new after) kept
not_made (InvalidArgument (Bson TooLong)) maximum message old new before after kept refused unsent = (refused, unsent)
not_made OutOfMemory maximum message old new before after kept refused unsent = inl unsent
not_made kind maximum message old new before after kept refused unsent = absurd refused

fault_kept : (kind : ErrorKind) (maximum : ℤ) (message : Message) (old new : State) (before after : ℤ) (kept : Option ErrorKind) → SendRefused kind maximum message (point old before) (point new after) kept → IfSome (sent_fault kind) (λ fault. is_kept fault ≡ true)
fault_kept (InvalidArgument fault) maximum message old new before after kept refused = tt
fault_kept WriteFault maximum message old new before after kept refused = refl
fault_kept OutOfMemory maximum message old new before after kept refused = refl
fault_kept kind maximum message old new before after kept refused = absurd refused

pub returns-in-Ok-clause-sent : goal.returns-in-Ok-clause-sent
returns-in-Ok-clause-sent g c = rw (c.in_ok-message.ensures.message, c.frame_maximum.ensures) at c.in-Ok.ensures.sent

pub returns-clause-refused : goal.returns-clause-refused
returns-clause-refused g c =
    rw (c.keep_sent.ensures.refused, c.keep_sent.ensures.kept) (rw (c.in_ok-message.ensures.message, c.frame_maximum.ensures) at c.in-Err.ensures.refused)

pub returns-in_err-message-clause-refused : goal.returns-in_err-message-clause-refused
returns-in_err-message-clause-refused g c =
    let e = err_from_is_err_and c.from_residual.result c.from_residual.ensures.1 in
    rw (e.1, e.2) (not_made c.in_err-message.field-0.0.kind _ _ _ _ _ _ _ c.in_err-message.ensures.refused (record { link = refl; ids = refl; kept_is = c.requires }))

pub keep_sent-requires : goal.keep_sent-requires
keep_sent-requires g c = record { unkept = c.requires; kept = fault_kept c.in-Err.refused.kind _ _ _ _ _ _ _ c.in-Err.ensures.refused }
