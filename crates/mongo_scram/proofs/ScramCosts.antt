-- What a login that was accepted, or refused before its exchanges, shows of its whole plan.
use Rattle.std.proofs.Common.{refl, sym, subst, inl, inr, []}
use Rattle.mongo_wire.specs.declared.error.ErrorKind.{ErrorKind}
use Rattle.mongo_wire.specs.declared.frame_buffer.FrameBuffer.{FrameBuffer}
use Rattle.mongo_wire.specs.Buffer.{held_document}
use Rattle.mongo_command.specs.Conversation.{says, ends, Reached}
use Rattle.mongo_command.proofs.FollowedBy.{reached_both}
use Rattle.mongo_sasl.specs.Stops.{BeginsWithCommand, RefusedAtOnce}
use Rattle.mongo_sasl.proofs.LastReply.{ends_reached}
use Rattle.mongo_sasl.proofs.AtOnce.{at_once_first, at_once_second}
use Rattle.mongo_scram.specs.Plan.{Handed, start_said, close_said, opened, opening, closing, scram_plan}
use Rattle.mongo_scram.specs.Costs.{Ledgers, Checkpoint, Accepted, StartUnsaid, FaultCosts, ScramRefused}
use Rattle.mongo_scram.proofs.OneRow.{no_credential_row}

pub accepted_reached : (handed : Handed) (buffer : FrameBuffer) (old new : Checkpoint) → (is : Accepted handed buffer old new) → Reached (scram_plan handed) is.challenge old.point new.point
accepted_reached handed buffer old new is =
    reached_both (opening handed) (closing handed) is.challenge is.challenge old.point.state is.middle.state new.point.state old.point.id is.middle.id new.point.id is.opened
    (ends_reached (closing handed is.challenge) is.challenge (held_document buffer) is.middle.state new.point.state is.middle.id new.point.id is.closed)

-- ---- over a connection that keeps a fault

start_turn : (handed : Handed) (earlier later : Ledgers) → (unsaid : StartUnsaid handed earlier later) → opening handed [] (says (start_said handed unsaid.user))
start_turn handed earlier later unsaid =
    let said = start_said handed unsaid.user in
    let turn : opened handed.speculated handed unsaid.user [] (says said) = subst (λ s. opened s handed unsaid.user [] (says said)) (sym unsaid.anew) refl in
    inr (no_credential_row handed.credential unsaid.user unsaid.is_user, (unsaid.user, unsaid.is_user, turn))

-- where the fault is answered, a command is next
pub fault_begins : (handed : Handed) (earlier later : Ledgers) → FaultCosts handed earlier later → BeginsWithCommand (scram_plan handed)
fault_begins handed earlier later (inl unsaid) = let said = start_said handed unsaid.user in (said, (says said, start_turn handed earlier later unsaid, refl))
fault_begins handed earlier later (inr unsaid) = (close_said handed unsaid.challenge, (ends unsaid.challenge, unsaid.opened, refl))

-- where it isn't, the whole login is refused at once
pub refused_whole : (handed : Handed) (kind : ErrorKind) (earlier later : Ledgers) → ScramRefused handed kind earlier later → RefusedAtOnce (scram_plan handed) kind
refused_whole handed kind earlier later (inl early) = at_once_first (opening handed) (closing handed) kind early.0
refused_whole handed kind earlier later (inr late) = at_once_second (opening handed) (closing handed) late.unsaid.challenge kind late.unsaid.opened late.refused
