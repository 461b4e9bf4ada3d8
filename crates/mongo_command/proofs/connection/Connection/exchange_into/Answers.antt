use Rattle.std.proofs.Common.{◌∙◌, inl, inr, refl, subst, sym}
use Rattle.std.proofs.lemmas.Result.{err_from_is_err_and}
use Rattle.std.specs.Io.KnownBytes.{Consumes}
use Rattle.mongo_wire.specs.Buffer.{IsFrameTaken, UsesMemory}
use Rattle.mongo_command.specs.Exchange.{frame_maximum}
use Rattle.mongo_command.proofs.EndsExchange.{ends_kept, ends_refused, ends_answered}
use Rattle.mongo_command.proofs.Kept.{received_kept}
use Rattle.mongo_command.proofs.Phases.{uses_later, uses_none}
use Rattle.mongo_command.proofs.Rest.{keeps_on, none_some}
use Rattle.mongo_command.proofs.Talked.{counts_on}
use Rattle.mongo_command.proofs.connection.Connection.exchange_into.Goals as goal

-- ---- after the reply

pub returns-in-Ok-clause-exchanged : goal.returns-in-Ok-clause-exchanged
returns-in-Ok-clause-exchanged g c = record {
  middle = g.L.Outside.state c.send.new.link;
  sends = c.in_ok-send.ensures.sent;
  receives = rw c.frame_maximum-maximum.ensures at c.in-Ok.ensures.received;
}

-- nothing was read while the command was sent
pub returns-in-Ok-clause-taken : goal.returns-in-Ok-clause-taken
returns-in-Ok-clause-taken g c =
    let maximum = frame_maximum c.args.self.now.stream_description in
    let state = g.L.Outside.state in
    let read : IsFrameTaken maximum (state c.send.new.link) (state c.receive_into.new.link) c.receive_into.new.buffer = rw c.frame_maximum-maximum.ensures at c.in-Ok.ensures.taken in
    record {
      frame = read.frame;
      parts = read.parts;
      holds = read.holds;
      within = read.within;
      taken = subst (λ left. Consumes left (state c.receive_into.new.link).left read.frame) c.in_ok-send.ensures.sent.unread read.taken;
      unstopped = record { reads = read.unstopped.reads ∙ c.in_ok-send.ensures.sent.reads; ends = read.unstopped.ends ∙ c.in_ok-send.ensures.sent.ends };
    }

pub returns-in-Ok-clause-ends : goal.returns-in-Ok-clause-ends
returns-in-Ok-clause-ends g c = ends_answered _ _ _ _ _ _ (c.in_ok-without_fault.ensures.none.0 refl) c.in_ok-send.ensures.faultless c.send.ensures.connection (counts_on _ _ _ c.send.ensures.counts c.receive_into.ensures.counts)

pub returns-in-Ok-clause-untouched : goal.returns-in-Ok-clause-untouched
returns-in-Ok-clause-untouched g c = λ kind is. absurd (none_some (sym (c.in_ok-without_fault.ensures.none.0 refl) ∙ is))

pub returns-in-Ok-clause-memory : goal.returns-in-Ok-clause-memory
returns-in-Ok-clause-memory g c =
    let state = g.L.Outside.state in
    let maximum = frame_maximum c.args.self.now.stream_description in
    let uses : UsesMemory maximum (state c.send.new.link) (state c.receive_into.new.link) c.args.buffer.now c.receive_into.new.buffer = rw c.frame_maximum-maximum.ensures at c.receive_into.ensures.memory in
    uses_later maximum (state c.args.link.now) _ _ _ _ c.in_ok-send.ensures.sent.unread uses

-- ---- where no frame is received

pub keep-requires : goal.keep-requires
keep-requires g c = received_kept _ _ _ _ c.in-Err.ensures.refused

pub returns-in-Err-clause-ends : goal.returns-in-Err-clause-ends
returns-in-Err-clause-ends g c =
    ends_refused _ _ _ _ _ _ _ c.keep.ensures.refused (c.in_ok-without_fault.ensures.none.0 refl)
    (inr (record {
      middle = g.L.Outside.state c.send.new.link;
      sends = c.in_ok-send.ensures.sent;
      refused = rw c.frame_maximum-maximum.ensures at c.in-Err.ensures.refused;
      kept_is = c.keep.ensures.kept;
    }))
    (keeps_on _ _ _ c.send.ensures.connection c.keep.ensures.rest) (counts_on _ _ _ c.send.ensures.counts c.receive_into.ensures.counts)

pub returns-in-Err-clause-buffer : goal.returns-in-Err-clause-buffer
returns-in-Err-clause-buffer g c unkept =
    rw (c.keep.ensures.refused) (inr (
      record {
        middle = g.L.Outside.state c.send.new.link;
        sends = c.in_ok-send.ensures.sent;
        refused = rw c.frame_maximum-maximum.ensures at c.in-Err.ensures.refused;
        kept_is = c.keep.ensures.kept;
      },
      c.in-Err.ensures.cleared,
    ))

pub returns-in-Err-clause-untouched : goal.returns-in-Err-clause-untouched
returns-in-Err-clause-untouched g c = λ kind is. absurd (none_some (sym (c.in_ok-without_fault.ensures.none.0 refl) ∙ is))

pub returns-in-Err-clause-memory : goal.returns-in-Err-clause-memory
returns-in-Err-clause-memory g c =
    let state = g.L.Outside.state in
    let maximum = frame_maximum c.args.self.now.stream_description in
    let uses : UsesMemory maximum (state c.send.new.link) (state c.receive_into.new.link) c.args.buffer.now c.receive_into.new.buffer = rw c.frame_maximum-maximum.ensures at c.receive_into.ensures.memory in
    uses_later maximum (state c.args.link.now) _ _ _ _ c.in_ok-send.ensures.sent.unread uses

-- ---- where the command isn't sent

pub returns-in_err-send-clause-ends : goal.returns-in_err-send-clause-ends
returns-in_err-send-clause-ends g c = ends_refused _ _ _ _ _ _ _ c.from_residual-in_err-send.ensures.1 (c.in_ok-without_fault.ensures.none.0 refl) (inl c.in_err-send.ensures.refused) c.send.ensures.connection c.send.ensures.counts

pub returns-in_err-send-clause-buffer : goal.returns-in_err-send-clause-buffer
returns-in_err-send-clause-buffer g c unkept =
    let e = err_from_is_err_and c.from_residual-in_err-send.result c.from_residual-in_err-send.ensures.1 in
    rw (e.1, e.2) (inl (c.in_err-send.ensures.refused, refl))

pub returns-in_err-send-clause-memory : goal.returns-in_err-send-clause-memory
returns-in_err-send-clause-memory g c = uses_none _ _ _ _

-- ---- where a fault is kept

pub returns-in_err-without_fault-clause-ends : goal.returns-in_err-without_fault-clause-ends
returns-in_err-without_fault-clause-ends g c = ends_kept _ _ _ _ _ _ c.from_residual.ensures.1 c.in_err-without_fault.ensures.kept c.in_err-without_fault.ensures.none

pub returns-in_err-without_fault-clause-memory : goal.returns-in_err-without_fault-clause-memory
returns-in_err-without_fault-clause-memory g c = uses_none _ _ _ _
